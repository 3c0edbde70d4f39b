-- A mount value in the words that a caller keeps, its account in words of their own: where each field stands, which words hold a mount value,
-- and which one.
use Rattle.std.specs.Prelude.{ℕ, ◌%◌, ◌^◌, List, [], ◌∷◌, ◌++◌, Bool, true, not, ◌&&◌, ◌≡◌, length, get_or, set, leb, ltb, eqb}
use Rattle.std.proofs.lemmas.List.Edits.{sets}
use Rattle.types.specs.declared.Account.{Account}
use Rattle.types.specs.declared.Mount.{Mount}
use Rattle.types.specs.declared.Volume.{Volume}
use Rattle.types.specs.Codes.{flag_code, policy_code, policy_from}
use Rattle.wire.specs.Le.{le, little}

-- ---- the words of a mount value

-- how many there are
abbrev pub mount_length : ℕ
mount_length = 11

-- words 0 to 8: what the mount fixes, but for one option; the uuid as two little-endian numbers of eight bytes
abbrev pub volume_words : Volume → List ℕ
volume_words v =
    v.block ∷ v.conventional ∷ v.sequential ∷ v.owner ∷ v.group ∷ v.mode ∷ policy_code v.policy ∷ le 8 v.uuid 0 ∷ le 8 v.uuid 8 ∷ []

-- where its state stands
abbrev pub state_at : ℕ
state_at = 9

-- word 9: the read-only mark
abbrev pub state_words : Mount → List ℕ
state_words m = flag_code m.readonly ∷ []

-- word 10: the option explicit-open, which the mount fixes too
abbrev pub explicit_at : ℕ
explicit_at = 10

unfoldable pub mount_words : Mount → List ℕ
mount_words m = volume_words m.volume ++ (state_words m ++ (flag_code m.volume.explicit ∷ []))

-- ---- the words of its account, apart from these

-- how many there are
abbrev pub account_length : ℕ
account_length = 4

-- words 0 and 1: how many files are open, and how many active
abbrev pub count_words : Account → List ℕ
count_words a = a.opened ∷ a.active ∷ []

-- words 2 and 3: the limit of each, which the mount fixes
unfoldable pub account_words : Account → List ℕ
account_words a = count_words a ++ (a.open_limit ∷ a.active_limit ∷ [])

-- ---- which words hold a mount value

abbrev pub word : List ℕ → ℕ → ℕ
word w k = get_or w k 0

-- a number of 32 bits
abbrev pub short : ℕ → Bool
short n = ltb n (2 ^ 32)

-- the code of a flag and of a policy
abbrev pub is_flag : ℕ → Bool
is_flag n = ltb n 2

abbrev pub is_policy : ℕ → Bool
is_policy n = ltb n 4

abbrev pub good_volume : List ℕ → Bool
good_volume w =
    short (word w 1) && short (word w 2) && short (word w 3) && short (word w 4) && short (word w 5) && is_policy (word w 6) && is_flag (word w 10)

abbrev pub good_state : List ℕ → Bool
good_state w = is_flag (word w 9)

-- long enough, every number within its width, and every code one of its codes. A block or a count that no mount has is the calls' to refuse.
unfoldable pub possible_mount : List ℕ → Bool
possible_mount w = leb mount_length (length w) && (good_volume w && good_state w)

abbrev pub good_account : List ℕ → Bool
good_account x = short (word x 0) && short (word x 1) && short (word x 2) && short (word x 3)

unfoldable pub possible_account : List ℕ → Bool
possible_account x = leb account_length (length x) && good_account x

-- the words hold a mount value, and those beside them its account
unfoldable pub possible : List ℕ → List ℕ → Bool
possible w x = possible_mount w && possible_account x

-- ---- the mount value of words

-- of possible words: the number itself
abbrev pub short_of : ℕ → ℕ
short_of n = n % 2 ^ 32

-- of a flag's code: yes or no
abbrev pub flag_from : ℕ → Bool
flag_from n = not (eqb n 0)

abbrev pub volume_from : List ℕ → Volume
volume_from w =
    record {
      block = word w 0;
      conventional = short_of (word w 1);
      sequential = short_of (word w 2);
      owner = short_of (word w 3);
      group = short_of (word w 4);
      mode = short_of (word w 5);
      policy = policy_from (word w 6);
      explicit = flag_from (word w 10);
      uuid = little 8 (word w 7) ++ little 8 (word w 8);
    }

abbrev pub account_from : List ℕ → Account
account_from x =
    record {
      opened = short_of (word x 0);
      active = short_of (word x 1);
      open_limit = short_of (word x 2);
      active_limit = short_of (word x 3);
    }

-- the mount value that possible words hold: the law `mount_back` says that words put by `mount_words` and `account_words` hold the mount value they
-- were put for
unfoldable pub mount_from : List ℕ → List ℕ → Mount
mount_from w x = record { volume = volume_from w; readonly = flag_from (word w 9); account = account_from x }

-- ---- the words with the state of another mount value: its mark and its counts

-- the words of what the mount fixes stand as they were, its limits among them. The law `state_back` says that words which held a mount value then
-- hold the other, which fixes the same, and `state_stays` that the state which they hold changes no word
unfoldable pub with_state : List ℕ → Mount → List ℕ
with_state w m = set w state_at (flag_code m.readonly)

unfoldable pub with_counts : List ℕ → Account → List ℕ
with_counts x a = sets x 0 (count_words a)

-- the words hold this mount value
abbrev pub Holds : List ℕ → List ℕ → Mount → Type 0
Holds w x m = (possible w x ≡ true) × (mount_from w x ≡ m)
