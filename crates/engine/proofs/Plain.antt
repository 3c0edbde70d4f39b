-- Without the option no call commands a zone open or close, none is answered 11 or 12, and no write 13.
-- Assumes nothing.
use Rattle.std.specs.Prelude.{Ok, Err, Some, None}
use Prim.Native.Nat.{ℕ, ◌<◌}
use native.Mathlib.Omega.{arith}
use mathlib.Core.Path.{◌≡◌, refl, sym, subst}
use mathlib.Core.Bool.{Bool, true, false, cond, not, ◌&&◌, ◌||◌, false≢true}
use mathlib.Core.List.{List, []}
use lib.ListN.{length}
use lib.Dec.{eqb, leb}
use Rattle.types.specs.declared.Mount.{Mount}
use Rattle.types.specs.declared.Row.{Row}
use Rattle.types.specs.declared.Call.{Call}
use Rattle.types.specs.declared.Command.{Command}
use Rattle.types.specs.declared.CommandKind.TheVariants as kind
use Rattle.types.specs.declared.FileKind.{FileKind}
use Rattle.types.specs.declared.FileKind.TheVariants.{Conventional, Sequential}
use Rattle.types.specs.declared.Refusal.{Refusal}
use Rattle.types.specs.declared.Refusal.TheVariants as refusal
use Rattle.types.specs.Answers.{Verdict}
use Rattle.types.specs.Answers.{Answer}
use Rattle.types.specs.declared.Granted.TheVariants.{Done, Issue}
use Rattle.types.specs.declared.Effect.{Effect}
use Rattle.types.specs.Codes.{kind_from}
use Rattle.types.specs.Commands.{opens_or_closes}
use Rattle.types.specs.Numbers.{refusal_number}
use Rattle.types.specs.Predicates.{is_busy}
use Rattle.types.specs.Verdicts.{refuse, answer_after}
use Rattle.account.specs.Account.{is_open, counted}
use Rattle.checks.specs.Checks.{Lookup}
use Rattle.checks.specs.Checks.{Checked}
use Rattle.checks.specs.Checks.{counts_fit, lookup_of, sound_row, found_row, file_of}
use Rattle.decision.specs.Decision.{changes, unreadable, unwritable, bad_target, beyond, misplaced, most_opens, at_once, read_checks, read_row, write_checks, write_row, truncate_row, flush_row, open_checks, open_row, close_row, answer_on, dispatched, limits_of, limited}
use Rattle.decision.proofs.Laws.{unlimited, limited-passes}
use Rattle.calls.specs.Calls as calls
use Rattle.calls.proofs.Laws as called
use Rattle.engine.specs.Engine.{step}
use Rattle.engine.specs.Counts.{Plain, WithoutOption}
use Rattle.engine.proofs.Laws.{call_by}

module _ (x : Call) where
  -- a number below 11
  low : (y : Refusal) → refusal_number y < 11 → Plain x (Err y)
  low y h =
      record {
        opens = λ e. omega arith;
        activates = λ e. omega arith;
        commands = λ c e. let z : ◌≡◌ {A = ℕ} 0 1 = cc in absurd (omega arith);
        writes = λ o l e f. omega arith;
      }

  at_once_lem : (count : ℕ) → Plain x (Ok (Done count))
  at_once_lem count =
      record {
        opens = λ e. omega arith;
        activates = λ e. omega arith;
        commands = λ c e. let z : ◌≡◌ {A = ℕ} 0 1 = cc in absurd (omega arith);
        writes = λ o l e f. omega arith;
      }

  commanded : (c : Command) → opens_or_closes c.kind ≡ false → Plain x (Ok (Issue c))
  commanded c h =
      record {
        opens = λ e. omega arith;
        activates = λ e. omega arith;
        commands = λ d e. let q : c ≡ d = cc in subst (λ (d : Command). opens_or_closes d.kind ≡ false) q h;
        writes = λ o l e f. omega arith;
      }

  -- chains of checks
  abbrev PlainVerdict : Verdict → Type 0
  PlainVerdict (Ok tt) = Unit
  PlainVerdict (Err y) = Plain x (Err y)

  check : (t : Bool) (y : Refusal) (rest : Verdict) → Plain x (Err y) → PlainVerdict rest → PlainVerdict (refuse t y rest)
  unfolding refuse
  check true y rest p q = p
  check false y rest p q = q

  after : (v : Verdict) (a : Answer) → PlainVerdict v → Plain x a → Plain x (answer_after v a)
  unfolding answer_after
  after (Ok tt) a p q = q
  after (Err y) a p q = p

  once : (t : Bool) (a : Answer) → Plain x a → Plain x (at_once t a)
  unfolding at_once
  once true a p = at_once_lem 0
  once false a p = p

denied : (x : Call) → Plain x (Err refusal.Denied)
denied x = low x refusal.Denied (omega arith)

-- a call on its row
plain-read : (r : Row) (o l : ℕ) → Plain (Call.Read o l) (read_row r o l)
unfolding read_row read_checks
plain-read r o l =
    let x = Call.Read o l in
    after x (read_checks r o l) _
    (check x (unreadable r.access) refusal.Denied _ (denied x) (check x (beyond r.capacity o l) refusal.BeyondCapacity (Ok tt) (low x refusal.BeyondCapacity (omega arith)) tt))
    (once x _ _ (commanded x _ refl))

-- 13 is passed without the option
write_checks_lem : (block : ℕ) (k : FileKind) (r : Row) (o l : ℕ) → PlainVerdict (Call.Write o l) (write_checks false block k r o l)
unfolding write_checks refuse
write_checks_lem block k r o l = by (unwritable r.access) (beyond r.capacity o l) (misplaced k block r.size o l)
  where
    x : Call
    x = Call.Write o l

    by : (t u v : Bool) → PlainVerdict x (refuse t refusal.Denied (refuse u refusal.BeyondCapacity (refuse v refusal.Misplaced (Ok tt))))
    by t u v =
        check x t refusal.Denied (refuse u refusal.BeyondCapacity (refuse v refusal.Misplaced (Ok tt))) (denied x)
        (check x u refusal.BeyondCapacity (refuse v refusal.Misplaced (Ok tt)) (low x refusal.BeyondCapacity (omega arith))
        (check x v refusal.Misplaced (Ok tt) (low x refusal.Misplaced (omega arith)) tt))

plain-write : (block : ℕ) (k : FileKind) (r : Row) (o l : ℕ) → Plain (Call.Write o l) (write_row false block k r o l)
unfolding write_row
plain-write block k r o l = let x = Call.Write o l in after x (write_checks false block k r o l) _ (write_checks_lem block k r o l) (once x _ _ (commanded x _ refl))

plain_truncate : (k : FileKind) (r : Row) (t : ℕ) → Plain (Call.Truncate t) (truncate_row k r t)
unfolding truncate_row
plain_truncate k r t =
    let x = Call.Truncate t in
    after x (refuse (unwritable r.access || bad_target k r.capacity t) refusal.Denied (Ok tt)) _
    (check x (unwritable r.access || bad_target k r.capacity t) refusal.Denied (Ok tt) (denied x) tt)
    (once x _ _ (commanded x _ (truncates (eqb t 0))))
  where
    truncates : (z : Bool) → opens_or_closes (cond z kind.Reset kind.Finish) ≡ false
    truncates true = refl
    truncates false = refl

plain-flush : (r : Row) → Plain Call.Flush (flush_row r)
unfolding flush_row
plain-flush r =
    after Call.Flush (refuse (unwritable r.access) refusal.Denied (Ok tt)) _
    (check Call.Flush (unwritable r.access) refusal.Denied (Ok tt) (denied Call.Flush) tt) (commanded Call.Flush _ refl)

many : Plain Call.Open (Err refusal.TooManyOpens)
many =
    record {
      opens = λ e. omega arith;
      activates = λ e. omega arith;
      commands = λ c e. let z : ◌≡◌ {A = ℕ} 0 1 = cc in absurd (omega arith);
      writes = λ o l e f. omega arith;
    }

plain_open : (k : FileKind) (r : Row) → Plain Call.Open (open_row false k r)
unfolding open_row open_checks at_once
plain_open Conventional r = at_once_lem Call.Open 0
plain_open Sequential r =
    after Call.Open (open_checks r) (Ok (Done 0))
    (check Call.Open (unwritable r.access) refusal.Denied (refuse (leb most_opens r.opens) refusal.TooManyOpens (Ok tt)) (denied Call.Open)
    (check Call.Open (leb most_opens r.opens) refusal.TooManyOpens (Ok tt) many tt)) (at_once_lem Call.Open 0)

-- 13 of a close is no write's
unclosed : Plain Call.Close (Err refusal.NotOpen)
unclosed =
    record {
      opens = λ e. omega arith;
      activates = λ e. omega arith;
      commands = λ c e. let z : ◌≡◌ {A = ℕ} 0 1 = cc in absurd (omega arith);
      writes = λ o l e f. let z : ◌≡◌ {A = ℕ} 0 1 = cc in omega arith;
    }

plain_close : (k : FileKind) (r : Row) → Plain Call.Close (close_row false k r)
unfolding close_row at_once
plain_close Conventional r = at_once_lem Call.Close 0
plain_close Sequential r =
    after Call.Close (refuse (not (is_open r)) refusal.NotOpen (Ok tt)) (Ok (Done 0)) (check Call.Close (not (is_open r)) refusal.NotOpen (Ok tt) unclosed tt) (at_once_lem Call.Close 0)

plain_row : (block : ℕ) (k : FileKind) (r : Row) (x : Call) → Plain x (answer_on false block k r x)
plain_row block k r (Call.Read o l) = plain-read r o l
plain_row block k r (Call.Write o l) = plain-write block k r o l
plain_row block k r (Call.Truncate t) = plain_truncate k r t
plain_row block k r Call.Flush = plain-flush r
plain_row block k r Call.Open = plain_open k r
plain_row block k r Call.Close = plain_close k r

-- past 2, 3, and the limits, of which there are none
plain_on : (m : Mount) (k : FileKind) (r : Row) (x : Call) (e : Bool) → e ≡ false
    → Plain x (answer_after (refuse (is_busy r.outstanding) refusal.Busy (Ok tt)) (limited (limits_of e m.account k r x) (dispatched m.readonly e m.volume.block k r x)))
unfolding dispatched
plain_on m k r x true h = absurd (false≢true (sym h))
plain_on m k r x false h =
    after x (refuse (is_busy r.outstanding) refusal.Busy (Ok tt)) _ (check x (is_busy r.outstanding) refusal.Busy (Ok tt) (low x refusal.Busy (omega arith)) tt)
    (rw (limited-passes (limits_of false m.account k r x) (dispatched m.readonly false m.volume.block k r x) (unlimited m.account k r x))
    (after x (refuse (m.readonly && changes k x) refusal.ReadOnlyMount (Ok tt)) _
    (check x (m.readonly && changes k x) refusal.ReadOnlyMount (Ok tt) (low x refusal.ReadOnlyMount (omega arith)) tt) (plain_row m.volume.block k r x)))

module _ (m : Mount) (k : FileKind) (i : ℕ) (x : Call) (explicit : m.volume.explicit ≡ false) where
  abbrev Answers : Checked → Type 0
  Answers f = Plain x (calls.on_file m k i f x).outcome.answer

  none : Answers (Err refusal.NoFile)
  none = low x refusal.NoFile (omega arith)

  impossible : Answers (Err refusal.Impossible)
  impossible = low x refusal.Impossible (omega arith)

  good : (r : Row) → Answers (Ok r)
  good r = subst (Plain x) (sym (called.settled_answer m (calls_none) (calls_none) k i x r (calls.on_row m k r x))) (plain_on m k r x m.volume.explicit explicit)
    where
      calls_none : List ℕ
      calls_none = []

  found : (l : Lookup) → Answers (found_row m k l)
  found (Some (Ok r)) = by (sound_row m.volume.block k r && counted m k r)
    where
      by : (t : Bool) → Answers (cond t (Ok r) (Err refusal.Impossible))
      by true = good r
      by false = impossible
  found (Some (Err o)) = impossible
  found None = none

  on_file_lem : (cnv seq : List ℕ) → Answers (file_of m cnv seq k i)
  unfolding file_of
  on_file_lem cnv seq = by (counts_fit m (length cnv) (length seq))
    where
      by : (t : Bool) → Answers (cond t (found_row m k (lookup_of m.volume cnv seq k i)) (Err refusal.Impossible))
      by true = found (lookup_of m.volume cnv seq k i)
      by false = impossible

pub without_option : WithoutOption
unfolding WithoutOption step
without_option s kind n x e =
    call_by s.mount s.cnv s.seq (λ (d : Effect). Plain x d.outcome.answer) kind n x
    (λ f. on_file_lem s.mount (kind_from kind) n x e s.cnv s.seq)
    (no_kind (counts_fit s.mount (length s.cnv) (length s.seq)))
  where
    no_kind : (t : Bool) → Plain x (Err (cond t refusal.NoFile refusal.Impossible))
    no_kind true = low x refusal.NoFile (omega arith)
    no_kind false = low x refusal.Impossible (omega arith)
