-- The mount value of a refused mount, and the two changes that calls and completions can make to a mount: its read-only mark, and its account.
use Rattle.std.specs.Prelude.{true, false, replicate}
use Rattle.types.specs.declared.Account.{Account}
use Rattle.types.specs.declared.Mount.{Mount}
use Rattle.types.specs.declared.ErrorPolicy.TheVariants.{RemountRo}

-- what a refused mount hands out
abbrev pub empty_mount : Mount
empty_mount =
    record {
      volume = record {
        block = 0;
        conventional = 0;
        sequential = 0;
        owner = 0;
        group = 0;
        mode = 0;
        policy = RemountRo;
        explicit = false;
        uuid = replicate 16 0;
      };
      readonly = false;
      account = record { opened = 0; active = 0; open_limit = 0; active_limit = 0 };
    }

-- "marks the whole mount read-only"
abbrev pub read_only : Mount → Mount
read_only m = record { volume = m.volume; readonly = true; account = m.account }

-- 02: "one small running account .., corrected in place"
abbrev pub with_account : Mount → Account → Mount
with_account m a = record { volume = m.volume; readonly = m.readonly; account = a }
