-- 02, K4: a mount whose report arrives in pieces: begin, any number of pieces, and the end. A struct by value; nothing else is held between them.
use Rattle.std.specs.Prelude.{ℕ, ◌^◌, List, Bool, false, cond, not, ◌&&◌, leb, ltb, Ok, Err}
use Rattle.types.specs.Blocks.{block_sectors, good_block, most_zones}
use Rattle.types.specs.Mounts.{empty_mount}
use Rattle.types.specs.Verdicts.{refuse, and_then}
use Rattle.types.specs.declared.Refusal.TheVariants.{BadReport, Impossible}
use Rattle.types.specs.Answers.{Verdict}
use Rattle.types.specs.declared.Mount.{Mount}
use Rattle.types.specs.Answers.{MountAnswer}
use Rattle.superblock.specs.declared.SuperBlock.{SuperBlock}
use Rattle.superblock.specs.SuperBlock.{super_read, found_in, fields_in}
use Rattle.options.specs.Options.{Options}
use Rattle.options.specs.Options.{options_of}
use Rattle.files.specs.Walk.{cnv_files}
use Rattle.mount.specs.Mount.{opening_check, answer_for, account_of, volume_of}
use Rattle.intake.specs.declared.Rule.{Rule}
use Rattle.intake.specs.declared.Intake.{Intake}
use Rattle.receiving.specs.declared.Received.{Received}
use Rattle.pieces.specs.declared.Pieces.{Pieces}
use Rattle.receiving.specs.Bytes.{Receiving, unit_bytes, complete, nothing_received, fed}

-- ---- begin: answers 0 or 20 to 27 and 33 exactly as the whole mount does

-- what begin found: the mount value, of no files yet
abbrev pub found_mount : ℕ → SuperBlock → Options → ℕ → ℕ → Mount
found_mount block fields options open_limit active_limit =
    record { volume = volume_of 0 0 block fields options; readonly = false; account = account_of 0 open_limit active_limit }

-- before the first piece
abbrev pub begun_with : Mount → Bool → Pieces
begun_with m aggregate = record { mount = m; aggregate = aggregate; received = nothing_received }

-- a refused begin hands out nothing that a piece could go on with
unfoldable pub begun_as : Verdict → Mount → Bool → Pieces
begun_as (Ok tt) m aggregate = begun_with m aggregate
begun_as (Err x) m aggregate = begun_with empty_mount false

pub record Beginning : Type 0 where
  pub answer : Verdict
  pub pieces : Pieces

unfoldable pub begin_outcome : ℕ → List ℕ → List ℕ → ℕ → ℕ → Beginning
begin_outcome block superblock options open_limit active_limit =
    record {
      answer = opening_check block (found_in (super_read superblock)) (options_of options);
      pieces = begun_as (opening_check block (found_in (super_read superblock)) (options_of options))
          (found_mount block (fields_in (super_read superblock)) (options_of options) open_limit active_limit) (fields_in (super_read superblock)).aggregate;
    }

-- ---- which values are gone on with: a good block, and numbers of which no sum wraps, also where no report leads to them; all else answers 10

abbrev pub possible_intake : Intake → Bool
possible_intake i =
    leb i.count most_zones && leb i.walk.number i.count && leb i.walk.expected (2 ^ 40) && leb i.walk.run.capacity i.walk.expected
    && leb i.walk.cnvs i.walk.number && leb i.walk.seqs i.walk.number && leb i.active i.walk.seqs

abbrev pub possible_received : Received → Bool
possible_received x = possible_intake x.intake && ltb x.held (unit_bytes x.intake)

unfoldable pub possible_pieces : Pieces → Bool
possible_pieces p = good_block p.mount.volume.block && possible_received p.received

-- ---- a piece

-- by what its zones are taken
abbrev pub rule_of : Pieces → Rule
rule_of p = record { unit = block_sectors p.mount.volume.block; aggregate = p.aggregate; explicit = p.mount.volume.explicit }

abbrev pub received_by : Pieces → Received → Pieces
received_by p x = record { mount = p.mount; aggregate = p.aggregate; received = x }

pub record Fed : Type 0 where
  pub answer : Verdict
  pub pieces : Pieces
  pub cnv : List ℕ
  pub seq : List ℕ

abbrev pub fed_to : Pieces → Receiving → Fed
fed_to p s = record { answer = s.received.intake.check; pieces = received_by p s.received; cnv = s.cnv; seq = s.seq }

unfoldable pub piece_outcome : Pieces → List ℕ → List ℕ → List ℕ → Fed
piece_outcome p bytes cnv seq =
    cond (possible_pieces p) (fed_to p (fed (rule_of p) (record { received = p.received; cnv = cnv; seq = seq }) bytes))
    (record { answer = Err Impossible; pieces = p; cnv = cnv; seq = seq })

-- ---- the end

-- "a missing or extra byte (28) at its place": a byte that is missing, at the end
unfoldable pub end_check : Intake → Verdict
end_check i = and_then i.check (refuse (not (complete i)) BadReport (Ok tt))

-- the mount value, with so many files of each kind, of which so many are active
abbrev pub with_files : Mount → ℕ → ℕ → ℕ → Mount
with_files m cnvs seqs active =
    record {
      volume = record {
        block = m.volume.block;
        conventional = cnvs;
        sequential = seqs;
        owner = m.volume.owner;
        group = m.volume.group;
        mode = m.volume.mode;
        policy = m.volume.policy;
        explicit = m.volume.explicit;
        uuid = m.volume.uuid;
      };
      readonly = m.readonly;
      account = record {
        opened = m.account.opened;
        active = active;
        open_limit = m.account.open_limit;
        active_limit = m.account.active_limit;
      };
    }

-- what the end hands out; after a refusal "no mount is handed out"
abbrev pub end_mount : MountAnswer → Mount → Intake → Mount
end_mount (Err x) m i = empty_mount
end_mount (Ok (cnvs, seqs)) m i = with_files m cnvs seqs i.active

-- what was found at the end stays found
abbrev pub ended_as : Received → Verdict → Received
ended_as x found =
    record {
      intake = record { check = found; count = x.intake.count; given = x.intake.given; walk = x.intake.walk; active = x.intake.active };
      part = x.part;
      held = x.held;
    }

pub record Ended : Type 0 where
  pub answer : MountAnswer
  pub mount : Mount
  pub pieces : Pieces

abbrev pub end_answer : Intake → MountAnswer
end_answer i = answer_for (end_check i) (cnv_files i.walk) i.walk.seqs

unfoldable pub end_outcome : Pieces → Ended
end_outcome p =
    cond (possible_pieces p)
    (record {
      answer = end_answer p.received.intake;
      mount = end_mount (end_answer p.received.intake) p.mount p.received.intake;
      pieces = received_by p (ended_as p.received (end_check p.received.intake));
    })
    (record { answer = Err Impossible; mount = empty_mount; pieces = p })
