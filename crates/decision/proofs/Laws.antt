-- What the decision on a row tells: a call whose answer is a command passed each of its checks. Whoever uses these opens no chain.
-- Assumes nothing.
use Rattle.std.specs.Prelude.{Ok, Err}
use Prim.Native.Nat.{ℕ, ◌+◌, ◌≤◌, ◌<◌}
use native.Mathlib.Omega.{arith}
use mathlib.Core.Path.{◌≡◌, refl, sym, ap}
use mathlib.Core.Bool.{Bool, true, false, cond, not, ◌&&◌, false≢true}
use lib.Dec.{eqb}
use borrow.Author.Tests.{leb-false, ltb-false, le-ltb, eqb-true, not-false, not-true}
use Rattle.types.specs.declared.Row.{Row}
use Rattle.types.specs.declared.Account.{Account}
use Rattle.types.specs.declared.FileKind.{FileKind}
use Rattle.types.specs.declared.FileKind.TheVariants.{Conventional, Sequential}
use Rattle.types.specs.declared.CommandKind.TheVariants as kind
use Rattle.types.specs.declared.Command.{Command}
use Rattle.types.specs.declared.Refusal.TheVariants.{ReadOnlyMount}
use Rattle.types.specs.Answers.{Verdict}
use Rattle.types.specs.Answers.{Answer}
use Rattle.types.specs.declared.Granted.TheVariants.{Done, Issue}
use Rattle.types.specs.declared.Call.{Call}
use Rattle.types.specs.Verdicts.{refuse, answer_after}
use Rattle.types.proofs.Tests.{and_left, and_right, or_left, or_right}
use Rattle.types.proofs.VerdictLaws.{check_passed, check_passes, after_passed, after-passes}
use Rattle.account.specs.Account.{is_open, is_full, is_empty, limit_check}
use Rattle.decision.specs.Facts.{Countable, Settles}
use Rattle.decision.specs.Decision.{changes, unreadable, unwritable, bad_target, most_opens, unopened, misplaced, at_once, command_of, file_command, read_count, read_checks, write_checks, read_row, write_row, truncate_row, flush_row, opening, open_checks, open_row, close_row, answer_on, dispatched, opens_file, called, limits_of, limited}

-- AT ONCE, or a command

not_done : {t : Bool} {rest : Answer} {c : Command} → at_once t rest ≡ Ok (Issue c) → (t ≡ false) × (rest ≡ Ok (Issue c))
unfolding at_once
not_done {t} {rest} {c} e = by t e
  where
    by : (t : Bool) → at_once t rest ≡ Ok (Issue c) → (t ≡ false) × (rest ≡ Ok (Issue c))
    by true e = (cc, cc)
    by false e = (refl, e)

goes_on_lem : {t : Bool} {rest y : Answer} → t ≡ false → rest ≡ y → at_once t rest ≡ y
unfolding at_once
goes_on_lem e g = rw e g

issued : {c d : Command} → ◌≡◌ {A = Answer} (Ok (Issue d)) (Ok (Issue c)) → d ≡ c
issued e = cc

pub commanded : {c d : Command} → d ≡ c → ◌≡◌ {A = Answer} (Ok (Issue d)) (Ok (Issue c))
commanded e = cc

-- A READ

pub record ReadChecked (r : Row) (offset length : ℕ) : Type 0 where
  pub readable : unreadable r.access ≡ false
  pub fits : offset + length ≤ r.capacity

pub record ReadIssued (r : Row) (offset length : ℕ) (c : Command) : Type 0 where
  pub checked : ReadChecked r offset length
  pub some : eqb (read_count r.size offset length) 0 ≡ false
  pub command : command_of kind.Read r.start offset (read_count r.size offset length) ≡ c

module _ (r : Row) (o l : ℕ) where
  pub read_checked : read_checks r o l ≡ Ok tt → ReadChecked r o l
  unfolding read_checks
  read_checked e =
      let (e1, g1) = check_passed _ e in
      let (e2, g2) = check_passed _ g1 in
      record { readable = e1; fits = ltb-false r.capacity (o + l) e2 }

  pub read_fits : read_checks r o l ≡ Ok tt → o + l ≤ r.capacity
  read_fits e = (read_checked e).fits

  pub read_issued : (c : Command) → read_row r o l ≡ Ok (Issue c) → ReadIssued r o l c
  unfolding read_row
  read_issued c e =
      let (e1, g1) = after_passed _ e in
      let (e2, g2) = not_done g1 in
      record { checked = read_checked e1; some = e2; command = issued g2 }

  -- and the other way round
  pub read-issues : (c : Command) → ReadIssued r o l c → read_row r o l ≡ Ok (Issue c)
  unfolding read_row read_checks
  read-issues c w =
      let p : read_checks r o l ≡ (Ok tt) = check_passes _ w.checked.readable (check_passes _ (le-ltb r.capacity (o + l) w.checked.fits) refl) in
      rw (after-passes p) (goes_on_lem w.some (commanded w.command))

-- A WRITE

pub record WriteChecked (explicit : Bool) (block : ℕ) (k : FileKind) (r : Row) (offset length : ℕ) : Type 0 where
  pub writable : unwritable r.access ≡ false
  pub opened : unopened explicit k r ≡ false
  pub fits : offset + length ≤ r.capacity
  pub placed : misplaced k block r.size offset length ≡ false

pub record WriteIssued (explicit : Bool) (block : ℕ) (k : FileKind) (r : Row) (offset length : ℕ) (c : Command) : Type 0 where
  pub checked : WriteChecked explicit block k r offset length
  pub some : eqb length 0 ≡ false
  pub command : command_of kind.Write r.start offset length ≡ c

module _ (explicit : Bool) (block : ℕ) (k : FileKind) (r : Row) (o l : ℕ) where
  pub write_checked : write_checks explicit block k r o l ≡ Ok tt → WriteChecked explicit block k r o l
  unfolding write_checks
  write_checked e =
      let (e1, g1) = check_passed _ e in
      let (e2, g2) = check_passed _ g1 in
      let (e3, g3) = check_passed _ g2 in
      let (e4, g4) = check_passed _ g3 in
      record { writable = e1; opened = e2; fits = ltb-false r.capacity (o + l) e3; placed = e4 }

  pub write_fits : write_checks explicit block k r o l ≡ Ok tt → o + l ≤ r.capacity
  write_fits e = (write_checked e).fits

  pub write_issued : (c : Command) → write_row explicit block k r o l ≡ Ok (Issue c) → WriteIssued explicit block k r o l c
  unfolding write_row
  write_issued c e =
      let (e1, g1) = after_passed _ e in
      let (e2, g2) = not_done g1 in
      record { checked = write_checked e1; some = e2; command = issued g2 }

  -- and the other way round
  pub write-issues : (c : Command) → WriteIssued explicit block k r o l c → write_row explicit block k r o l ≡ Ok (Issue c)
  unfolding write_row write_checks
  write-issues c w =
      let p : write_checks explicit block k r o l ≡ (Ok tt) =
      check_passes _ w.checked.writable (check_passes _ w.checked.opened (check_passes _ (le-ltb r.capacity (o + l) w.checked.fits) (check_passes _ w.checked.placed refl))) in
      rw (after-passes p) (goes_on_lem w.some (commanded w.command))

-- A TRUNCATION

pub record TruncateIssued (k : FileKind) (r : Row) (target : ℕ) (c : Command) : Type 0 where
  pub writable : unwritable r.access ≡ false
  pub good : bad_target k r.capacity target ≡ false
  pub other : eqb target r.size ≡ false
  pub command : file_command (cond (eqb target 0) kind.Reset kind.Finish) r ≡ c

pub truncate_issued : (k : FileKind) (r : Row) (t : ℕ) (c : Command) → truncate_row k r t ≡ Ok (Issue c) → TruncateIssued k r t c
unfolding truncate_row
truncate_issued k r t c e =
    let (e1, g1) = after_passed _ e in
    let (e2, g2) = check_passed _ e1 in
    let (e3, g3) = not_done g1 in
    record { writable = or_left (unwritable r.access) _ e2; good = or_right (unwritable r.access) _ e2; other = e3; command = issued g3 }

-- A FLUSH

pub record FlushIssued (r : Row) (c : Command) : Type 0 where
  pub writable : unwritable r.access ≡ false
  pub command : file_command kind.Flush r ≡ c

pub flush_issued : (r : Row) (c : Command) → flush_row r ≡ Ok (Issue c) → FlushIssued r c
unfolding flush_row
flush_issued r c e =
    let (e1, g1) = after_passed _ e in
    let (e2, g2) = check_passed _ e1 in
    record { writable = e2; command = issued g1 }

-- AN OPEN

pub record OpenIssued (explicit : Bool) (k : FileKind) (r : Row) (c : Command) : Type 0 where
  pub sequential : k ≡ Sequential
  pub writable : unwritable r.access ≡ false
  pub option : explicit ≡ true
  pub first : r.opens ≡ 0
  pub room : is_full r ≡ false
  pub command : file_command kind.Open r ≡ c

-- past 4 and 14
pub open_checked : (r : Row) → open_checks r ≡ Ok tt → (unwritable r.access ≡ false) × (r.opens < most_opens)
unfolding open_checks
open_checked r e =
    let (e1, g1) = check_passed _ e in
    let (e2, g2) = check_passed _ g1 in
    (e1, leb-false most_opens r.opens e2)

pub open_issued : (explicit : Bool) (k : FileKind) (r : Row) (c : Command) → open_row explicit k r ≡ Ok (Issue c) → OpenIssued explicit k r c
unfolding open_row
open_issued explicit Conventional r c e = let z : ◌≡◌ {A = ℕ} 0 1 = cc in absurd (omega arith)
open_issued explicit Sequential r c e =
    let (e1, g1) = after_passed _ e in
    let (e2, g2) = not_done g1 in
    let on = not-false (explicit && (not (is_open r) && not (is_full r))) e2 in
    let rest = and_right explicit _ on in
    record {
      sequential = refl;
      writable = (open_checked r e1).0;
      option = and_left explicit _ on;
      first = let h = ltb-false 0 r.opens (not-true (is_open r) (and_left (not (is_open r)) _ rest)) in omega arith;
      room = not-true (is_full r) (and_right (not (is_open r)) _ rest);
      command = issued g2;
    }

-- A CLOSE

pub record CloseIssued (explicit : Bool) (k : FileKind) (r : Row) (c : Command) : Type 0 where
  pub sequential : k ≡ Sequential
  pub option : explicit ≡ true
  pub last : r.opens ≡ 1
  pub some : is_empty r ≡ false
  pub room : is_full r ≡ false
  pub command : file_command kind.Close r ≡ c

pub close_issued : (explicit : Bool) (k : FileKind) (r : Row) (c : Command) → close_row explicit k r ≡ Ok (Issue c) → CloseIssued explicit k r c
unfolding close_row
close_issued explicit Conventional r c e = let z : ◌≡◌ {A = ℕ} 0 1 = cc in absurd (omega arith)
close_issued explicit Sequential r c e =
    let (e1, g1) = after_passed _ e in
    let (e2, g2) = not_done g1 in
    let on = not-false (explicit && (eqb r.opens 1 && (not (is_empty r) && not (is_full r)))) e2 in
    let rest = and_right explicit _ on in
    let between = and_right (eqb r.opens 1) _ rest in
    record {
      sequential = refl;
      option = and_left explicit _ on;
      last = eqb-true r.opens 1 (and_left (eqb r.opens 1) _ rest);
      some = not-true (is_empty r) (and_left (not (is_empty r)) _ between);
      room = not-true (is_full r) (and_right (not (is_empty r)) _ between);
      command = issued g2;
    }

-- THE DISPATCH: a call that is dispatched to a command passed 3, and its row's answer is the command; and the other way round.

module _ (readonly explicit : Bool) (block : ℕ) (k : FileKind) (r : Row) (x : Call) where
  pub dispatch_passed : (c : Command) → dispatched readonly explicit block k r x ≡ Ok (Issue c) → (readonly && changes k x ≡ false) × (answer_on explicit block k r x ≡ Ok (Issue c))
  unfolding dispatched
  dispatch_passed c e =
      let (e1, g1) = after_passed _ e in
      let (e2, g2) = check_passed _ e1 in
      (e2, g1)

  pub dispatch_passes : readonly && changes k x ≡ false → dispatched readonly explicit block k r x ≡ answer_on explicit block k r x
  unfolding dispatched
  dispatch_passes e = after-passes (check_passes _ e refl)

  pub dispatch_refused : readonly && changes k x ≡ true → dispatched readonly explicit block k r x ≡ Err ReadOnlyMount
  unfolding dispatched refuse answer_after
  dispatch_refused e = rw e

-- ONE OPEN MORE never wraps, where an open was not refused.

-- after checks that were passed or not
pub settled-after : (k : FileKind) (x : Call) (r : Row) (v : Verdict) (a : Answer) → (v ≡ Ok tt → Settles k x r a) → Settles k x r (answer_after v a)
unfolding answer_after
settled-after k x r (Ok tt) a h = h refl
settled-after k x r (Err y) a h = tt

-- at once or not, where the call may be counted
either_way : (k : FileKind) (x : Call) (r : Row) (a : Answer) → Countable k x r → Settles k x r a
either_way k x r (Err y) h = tt
either_way k x r (Ok (Done count)) h = h
either_way k x r (Ok (Issue c)) h = h

pub answer_settles : (explicit : Bool) (block : ℕ) (k : FileKind) (r : Row) (x : Call) → Settles k x r (answer_on explicit block k r x)
unfolding open_row
answer_settles explicit block k r (Call.Read o l) = either_way k (Call.Read o l) r (read_row r o l) (λ e. absurd (false≢true e))
answer_settles explicit block k r (Call.Write o l) = either_way k (Call.Write o l) r (write_row explicit block k r o l) (λ e. absurd (false≢true e))
answer_settles explicit block k r (Call.Truncate t) = either_way k (Call.Truncate t) r (truncate_row k r t) (λ e. absurd (false≢true e))
answer_settles explicit block k r Call.Flush = either_way k Call.Flush r (flush_row r) (λ e. absurd (false≢true e))
answer_settles explicit block Conventional r Call.Open = λ e. absurd (false≢true e)
answer_settles explicit block Sequential r Call.Open =
    settled-after Sequential Call.Open r (open_checks r) (opening explicit r) (λ p. either_way Sequential Call.Open r (opening explicit r) (λ e. (open_checked r p).1))
answer_settles explicit block k r Call.Close = either_way k Call.Close r (close_row explicit k r) (λ e. absurd (false≢true e))

pub dispatch_settles : (readonly explicit : Bool) (block : ℕ) (k : FileKind) (r : Row) (x : Call) → Settles k x r (dispatched readonly explicit block k r x)
unfolding dispatched
dispatch_settles readonly explicit block k r x = settled-after k x r _ (answer_on explicit block k r x) (λ p. answer_settles explicit block k r x)

-- 11 AND 12, past everything else

-- an answer within the limits is the one that it was, and the limits were passed
pub limited_issued : {v : Verdict} {a : Answer} {c : Command} → limited v a ≡ Ok (Issue c) → (v ≡ Ok tt) × (a ≡ Ok (Issue c))
unfolding limited
limited_issued {v} {a} {c} e = by a e
  where
    by : (a : Answer) → limited v a ≡ Ok (Issue c) → (v ≡ Ok tt) × (a ≡ Ok (Issue c))
    by (Err y) e = let z : ◌≡◌ {A = ℕ} 0 1 = cc in absurd (omega arith)
    by (Ok (Done count)) e = after_passed _ e
    by (Ok (Issue d)) e = after_passed _ e

pub limited-passes : (v : Verdict) (a : Answer) → v ≡ Ok tt → limited v a ≡ a
unfolding limited
limited-passes v (Err y) e = refl
limited-passes v (Ok (Done count)) e = after-passes e
limited-passes v (Ok (Issue c)) e = after-passes e

pub limited_settles : (k : FileKind) (x : Call) (r : Row) (v : Verdict) (a : Answer) → Settles k x r a → Settles k x r (limited v a)
unfolding limited
limited_settles k x r v (Err y) h = tt
limited_settles k x r v (Ok (Done count)) h = settled-after k x r v (Ok (Done count)) (λ p. h)
limited_settles k x r v (Ok (Issue c)) h = settled-after k x r v (Ok (Issue c)) (λ p. h)

-- without the option there are none
pub unlimited : (a : Account) (k : FileKind) (r : Row) (x : Call) → limits_of false a k r x ≡ Ok tt
unfolding limit_check refuse
unlimited a k r x = by (opens_file k x)
  where
    by : (t : Bool) → cond t (limit_check false a r (called k x r)) (Ok tt) ≡ Ok tt
    by true = refl
    by false = refl

-- of any other call neither
pub limits_of-others : (explicit : Bool) (a : Account) (k : FileKind) (r : Row) (x : Call) → opens_file k x ≡ false → limits_of explicit a k r x ≡ Ok tt
limits_of-others explicit a k r x e = rw e

-- and of an open they are those of the row that it leaves
pub limits_of-opens : (explicit : Bool) (a : Account) (k : FileKind) (r : Row) (x : Call) → opens_file k x ≡ true → limit_check explicit a r (called k x r) ≡ limits_of explicit a k r x
limits_of-opens explicit a k r x e = ap (λ (t : Bool). cond t (limit_check explicit a r (called k x r)) (Ok tt)) (sym e)
