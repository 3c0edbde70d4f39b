-- `issuable` says exactly that some call on the row as it stood before would issue the command, and leave the row.
-- Assumes nothing.
use Rattle.std.specs.Prelude.{Ok, Err}
use Prim.Native.Nat.{ℕ, zero, suc, ◌+◌, ◌-◌}
use native.Mathlib.Omega.{arith}
use mathlib.Core.Path.{◌≡◌, refl, sym, ◌∙◌, ap, subst}
use mathlib.Core.Bool.{Bool, true, false, cond, not, ◌&&◌, ◌||◌, false≢true}
use lib.Dec.{eqb}
use borrow.Author.Tests.{eqb-true, eq-eqb, ne_eqb, lt-ltb, not-false}
use Rattle.types.specs.declared.Row.{Row}
use Rattle.types.specs.declared.FileKind.{FileKind}
use Rattle.types.specs.declared.FileKind.TheVariants.{Conventional, Sequential}
use Rattle.types.specs.declared.Command.{Command}
use Rattle.types.specs.declared.Call.{Call}
use Rattle.types.specs.declared.CommandKind.{CommandKind}
use Rattle.types.specs.declared.CommandKind.TheVariants as kind
use Rattle.types.specs.Answers.{Answer}
use Rattle.types.specs.declared.Granted.TheVariants.{Done, Issue}
use Rattle.types.specs.declared.Outstanding.{Outstanding}
use Rattle.types.specs.Blocks.{bytes_of}
use Rattle.types.specs.Codes.{command_code, command_from}
use Rattle.types.proofs.CodeLaws.{command_back}
use Rattle.types.specs.declared.Refusal.TheVariants.{NotOpen}
use Rattle.types.specs.Answers.{Verdict}
use Rattle.types.specs.Verdicts.{refuse, answer_after}
use Rattle.types.specs.Predicates.{is_conventional, is_write}
use Rattle.types.proofs.Tests.{both, and_left, and_right}
use Rattle.table.specs.Rows.{with_outstanding, with_opens}
use Rattle.account.specs.Account.{is_open}
use Rattle.checks.specs.Checks.{openable}
use Rattle.decision.specs.Decision.{bad_target, command_of, file_command, read_count, read_checks, read_row, write_checks, write_row, truncate_row, flush_row, at_once, opening, open_checks, open_row, closing, close_row, answer_on, opens_after, called}
use Rattle.decision.proofs.Laws.{commanded, read_issued, read-issues, write_issued, truncate_issued, flush_issued, open_issued, close_issued}
use Rattle.held.specs.Held.{same_command, issues, call_for, reissue, stood_before, issuable}

-- AN ANSWER ISSUES A COMMAND exactly where it is that command.

same_refl : (c : Command) → same_command c c ≡ true
same_refl c = simp (eq-eqb (command_code c.kind) _ refl, eq-eqb c.address _ refl, eq-eqb c.length _ refl)

issues_it : (a : Answer) (c : Command) → a ≡ Ok (Issue c) → issues a c ≡ true
issues_it a c e = rw e (same_refl c)

made : CommandKind → ℕ → ℕ → Command
made k a l = record { kind = k; address = a; length = l }

same_parts : (j k : CommandKind) (a b l n : ℕ) → j ≡ k → a ≡ b → l ≡ n
    → ◌≡◌ {A = Command} (record { kind = j; address = a; length = l }) (record { kind = k; address = b; length = n })
unfolding made
same_parts j k a b l n e f g = let h : made j a l ≡ made k b n = cc in h

same-eq : (a b : Command) → same_command a b ≡ true → a ≡ b
same-eq a b h =
    let k : eqb (command_code a.kind) (command_code b.kind) ≡ true = search (and_left, and_right) depth 9 in
    let s : eqb a.address b.address ≡ true = search (and_left, and_right) depth 9 in
    let t : eqb a.length b.length ≡ true = search (and_left, and_right) depth 9 in
    let e : a.kind ≡ b.kind = sym (command_back a.kind) ∙ ap command_from (eqb-true _ (command_code b.kind) k) ∙ command_back b.kind in
    same_parts a.kind b.kind a.address b.address a.length b.length e (eqb-true _ b.address s) (eqb-true _ b.length t)

answer_issues : (a : Answer) (c : Command) → issues a c ≡ true → a ≡ Ok (Issue c)
answer_issues (Err x) c h = absurd (false≢true h)
answer_issues (Ok (Done n)) c h = absurd (false≢true h)
answer_issues (Ok (Issue x)) c h = commanded (same-eq x c h)

module _ (explicit : Bool) (block : ℕ) (k : FileKind) (r : Row) where
  -- AN ISSUABLE COMMAND is the answer of a call on its row as it stood before, which has opens only with write access.

  abbrev again : Command → Bool
  again c = issues (answer_on explicit block k (stood_before r c) (reissue r c)) c

  abbrev left : Command → Bool
  left c = eqb (opens_after k (reissue r c) (stood_before r c).opens) r.opens

  pub issuable_call : (c : Command) → issuable explicit block k r c ≡ true → answer_on explicit block k (stood_before r c) (reissue r c) ≡ Ok (Issue c)
  unfolding issuable
  issuable_call c h = answer_issues (answer_on explicit block k (stood_before r c) (reissue r c)) c (and_left (again c) (left c) (and_left _ (openable (stood_before r c)) h))

  pub issuable-openable : (c : Command) → issuable explicit block k r c ≡ true → openable (stood_before r c) ≡ true
  unfolding issuable
  issuable-openable c h = and_right (again c && left c) _ h

  -- and the call leaves the opens that the row has
  pub issuable-opens : (c : Command) → issuable explicit block k r c ≡ true → opens_after k (reissue r c) (stood_before r c).opens ≡ r.opens
  unfolding issuable
  issuable-opens c h = eqb-true _ r.opens (and_right (again c) (left c) (and_left _ (openable (stood_before r c)) h))

  -- a command at an offset is issuable if the call made again issues it
  recall : (j : CommandKind) (o n : ℕ) → let c = command_of j r.start o n in
      answer_on explicit block k (stood_before r c) (call_for r j o n) ≡ Ok (Issue c) → opens_after k (call_for r j o n) (stood_before r c).opens ≡ r.opens
      → openable (stood_before r c) ≡ true → issuable explicit block k r c ≡ true
  unfolding issuable
  recall j o n h after sure =
      let e : bytes_of r.start + o - bytes_of r.start ≡ o = omega arith in
      let c = command_of j r.start o n in
      both (both (issues_it (answer_on explicit block k (stood_before r c) (call_for r j (bytes_of r.start + o - bytes_of r.start) n)) c (rw e h)) (rw e (eq-eqb _ r.opens after))) sure

-- A COMMAND THAT A CALL ISSUES is issuable, on the row that the call leaves.
module _ (explicit : Bool) (block : ℕ) (k : FileKind) (r : Row) (sure : openable r ≡ true) where
  read-complete : (o l : ℕ) (c : Command) → read_row r o l ≡ Ok (Issue c) → issuable explicit block k r c ≡ true
  read-complete o l c g =
      let w = read_issued r o l c g in
      let n : ℕ = read_count r.size o l in
      let e : read_count r.size o n ≡ n = omega arith in
      rw (← w.command)
      (recall explicit block k r kind.Read o n
      (read-issues r o n (command_of kind.Read r.start o n)
      (record {
        checked = record { readable = w.checked.readable; fits = omega (arith, w.checked.fits) };
        some = rw e w.some;
        command = rw e;
      }))
      refl sure)

  write-complete : (o l : ℕ) (c : Command) → write_row explicit block k r o l ≡ Ok (Issue c) → issuable explicit block k r c ≡ true
  write-complete o l c g =
      let w = write_issued explicit block k r o l c g in
      rw (← w.command) (recall explicit block k r kind.Write o l (g ∙ commanded (sym w.command)) refl sure)

  flush-complete : (c : Command) → flush_row r ≡ Ok (Issue c) → issuable explicit block k r c ≡ true
  flush-complete c g =
      let w = flush_issued r c g in
      rw (← w.command) (recall explicit block k r kind.Flush 0 0 (g ∙ commanded (sym w.command)) refl sure)

  -- a target that is not refused, and is not 0, is the capacity
  good_target : (k : FileKind) (c t : ℕ) → bad_target k c t ≡ false → eqb t 0 ≡ false → t ≡ c
  good_target Conventional c t h e = absurd (false≢true (sym h))
  good_target Sequential c t h e = eqb-true t c (rw e at (not-false (eqb t 0 || eqb t c) h))

  truncate_complete : (t : ℕ) (c : Command) → truncate_row k r t ≡ Ok (Issue c) → issuable explicit block k r c ≡ true
  truncate_complete t c g =
      let w = truncate_issued k r t c g in
      by (eqb t 0) refl w.good w.command
    where
      by : (z : Bool) → eqb t 0 ≡ z → bad_target k r.capacity t ≡ false → file_command (cond z kind.Reset kind.Finish) r ≡ c
          → issuable explicit block k r c ≡ true
      by true e b w = rw (← w) (recall explicit block k r kind.Reset 0 0 (rw (eqb-true t 0 e) at g ∙ commanded (sym w)) refl sure)
      by false e b w = rw (← w) (recall explicit block k r kind.Finish 0 0 (rw (good_target k r.capacity t b e) at g ∙ commanded (sym w)) refl sure)

-- a row with other opens, one more and one less of them
more_less : (r : Row) (n : ℕ) → with_opens r (n + 1 - 1) ≡ with_opens r n
more_less r n = let e : n + 1 - 1 ≡ n = omega arith in rw e

open_complete : (explicit : Bool) (block : ℕ) (k : FileKind) (r : Row) (c : Command) → openable r ≡ true → open_row explicit k r ≡ Ok (Issue c)
    → issuable explicit block k (called k Call.Open r) c ≡ true
open_complete explicit block Conventional r c sure g = absurd (false≢true (sym (ap is_conventional (open_issued explicit Conventional r c g).sequential)))
open_complete explicit block Sequential r c sure g =
    let w = open_issued explicit Sequential r c g in
    let before : with_opens r (r.opens + 1 - 1) ≡ r = more_less r r.opens in
    rw (← w.command)
    (recall explicit block Sequential (called Sequential Call.Open r) kind.Open 0 0
    (ap (λ (b : Row). open_row explicit Sequential b) before ∙ g ∙ commanded (sym w.command))
    (ap (λ (b : Row). b.opens + 1) before)
    (ap (λ (b : Row). openable b) before ∙ sure))

close_complete : (explicit : Bool) (block : ℕ) (k : FileKind) (r : Row) (c : Command) → openable r ≡ true → close_row explicit k r ≡ Ok (Issue c)
    → issuable explicit block k (called k Call.Close r) c ≡ true
close_complete explicit block Conventional r c sure g = absurd (false≢true (sym (ap is_conventional (close_issued explicit Conventional r c g).sequential)))
close_complete explicit block Sequential r c sure g =
    let w = close_issued explicit Sequential r c g in
    let e : r.opens - 1 + 1 ≡ r.opens = omega (arith, w.last) in
    let before : with_opens r (r.opens - 1 + 1) ≡ r = rw e in
    rw (← w.command)
    (recall explicit block Sequential (called Sequential Call.Close r) kind.Close 0 0
    (ap (λ (b : Row). close_row explicit Sequential b) before ∙ g ∙ commanded (sym w.command))
    (ap (λ (b : Row). b.opens - 1) before)
    (ap (λ (b : Row). openable b) before ∙ sure))

pub issuable-complete : (explicit : Bool) (block : ℕ) (k : FileKind) (r : Row) (x : Call) (c : Command) → openable r ≡ true → answer_on explicit block k r x ≡ Ok (Issue c)
    → issuable explicit block k (called k x r) c ≡ true
issuable-complete explicit block k r (Call.Read o l) c sure g = read-complete explicit block k r sure o l c g
issuable-complete explicit block k r (Call.Write o l) c sure g = write-complete explicit block k r sure o l c g
issuable-complete explicit block k r (Call.Truncate t) c sure g = truncate_complete explicit block k r sure t c g
issuable-complete explicit block k r Call.Flush c sure g = flush-complete explicit block k r sure c g
issuable-complete explicit block k r Call.Open c sure g = open_complete explicit block k r c sure g
issuable-complete explicit block k r Call.Close c sure g = close_complete explicit block k r c sure g

-- WHAT IS OUTSTANDING on the row makes no difference: "with row and mount as they are but nothing held".
pub answer_on_held : (explicit : Bool) (block : ℕ) (k : FileKind) (r : Row) (o : Outstanding) (x : Call)
    → answer_on explicit block k (with_outstanding r o) x ≡ answer_on explicit block k r x
unfolding read_row read_checks write_row write_checks truncate_row flush_row open_row open_checks close_row
answer_on_held explicit block k r o (Call.Read a l) = refl
answer_on_held explicit block k r o (Call.Write a l) = refl
answer_on_held explicit block k r o (Call.Truncate t) = refl
answer_on_held explicit block k r o Call.Flush = refl
answer_on_held explicit block Conventional r o Call.Open = refl
answer_on_held explicit block Sequential r o Call.Open = refl
answer_on_held explicit block Conventional r o Call.Close = refl
answer_on_held explicit block Sequential r o Call.Close = refl

again_same : (r : Row) (o : Outstanding) (j : CommandKind) (a l : ℕ) → call_for (with_outstanding r o) j a l ≡ call_for r j a l
again_same r o kind.Read a l = refl
again_same r o kind.Write a l = refl
again_same r o kind.Reset a l = refl
again_same r o kind.Finish a l = refl
again_same r o kind.Flush a l = refl
again_same r o kind.Open a l = refl
again_same r o kind.Close a l = refl

-- nor do the opens to which call it is
pub again_opens : (r : Row) (n : ℕ) (j : CommandKind) (a l : ℕ) → call_for (with_opens r n) j a l ≡ call_for r j a l
again_opens r n kind.Read a l = refl
again_opens r n kind.Write a l = refl
again_opens r n kind.Reset a l = refl
again_opens r n kind.Finish a l = refl
again_opens r n kind.Flush a l = refl
again_opens r n kind.Open a l = refl
again_opens r n kind.Close a l = refl

pub issuable_held : (explicit : Bool) (block : ℕ) (k : FileKind) (r : Row) (o : Outstanding) (c : Command)
    → issuable explicit block k (with_outstanding r o) c ≡ issuable explicit block k r c
unfolding issuable
issuable_held explicit block k r o c =
    let there = c.address - bytes_of r.start in
    let before = stood_before r c in
    rw (again_same r o c.kind there c.length, answer_on_held explicit block k before o (call_for r c.kind there c.length))

-- BY ITS KIND: the call that would have issued it, as the code makes it again. A first open finds no opens, and a last close one.
module _ (explicit : Bool) (block : ℕ) (k : FileKind) (r : Row) where
  abbrev offset : Command → ℕ
  offset c = c.address - bytes_of r.start

  abbrev pub again_by : CommandKind → Command → Bool
  again_by kind.Read c = issues (read_row r (offset c) c.length) c
  again_by kind.Write c = issues (write_row explicit block k r (offset c) c.length) c
  again_by kind.Reset c = issues (truncate_row k r 0) c
  again_by kind.Finish c = issues (truncate_row k r r.capacity) c
  again_by kind.Flush c = issues (flush_row r) c
  again_by kind.Open c = issues (open_row explicit k (with_opens r 0)) c && eqb r.opens 1
  again_by kind.Close c = issues (close_row explicit k (with_opens r 1)) c && eqb r.opens 0 && is_write r.access

  -- the tests that hold of any row
  plain : (b : Bool) (n : ℕ) {t : Bool} → t ≡ true → b ≡ b && eqb n n && t
  plain true n e = rw (eq-eqb n n refl, e)
  plain false n e = refl

  no_issue : (v : Verdict) (c : Command) → issues (answer_after v (Ok (Done 0))) c ≡ false
  unfolding answer_after
  no_issue (Ok tt) c = refl
  no_issue (Err y) c = refl

  -- nor is anything of a conventional file
  unopened_none : (b : Row) (c : Command) → issues (open_row explicit Conventional b) c ≡ false
  unfolding open_row
  unopened_none b c = refl

  unclosed_none : (b : Row) (c : Command) → issues (close_row explicit Conventional b) c ≡ false
  unfolding close_row
  unclosed_none b c = refl

  -- a further open, and a close that isn't the last, are answered at once
  further : (n : ℕ) (c : Command) → issues (open_row explicit Sequential (with_opens r (suc n))) c ≡ false
  unfolding open_row at_once
  further n c = by explicit
    where
      opened : is_open (with_opens r (suc n)) ≡ true
      opened = lt-ltb 0 (suc n) (omega arith)

      by : (e : Bool) → issues (answer_after (open_checks (with_opens r (suc n))) (opening e (with_opens r (suc n)))) c ≡ false
      by true = rw opened (no_issue (open_checks (with_opens r (suc n))) c)
      by false = no_issue (open_checks (with_opens r (suc n))) c

  not_last : (n : ℕ) (c : Command) → issues (close_row explicit Sequential (with_opens r (suc (suc n)))) c ≡ false
  unfolding close_row at_once
  not_last n c = by explicit
    where
      further : eqb (suc (suc n)) 1 ≡ false
      further = ne_eqb (suc (suc n)) 1 (λ q. omega arith)

      by : (e : Bool) → issues (answer_after (refuse (not (is_open (with_opens r (suc (suc n))))) NotOpen (Ok tt)) (closing e (with_opens r (suc (suc n))))) c ≡ false
      by true = rw further (no_issue _ c)
      by false = no_issue _ c

  without : (b t : Bool) → b && false && t ≡ false
  without true t = refl
  without false t = refl

  open_again : (k : FileKind) (n : ℕ) (c : Command)
      → issues (open_row explicit k (with_opens r 0)) c && eqb n 1 ≡ issues (open_row explicit k (with_opens r (n - 1))) c && eqb (opens_after k Call.Open (n - 1)) n && openable (with_opens r (n - 1))
  open_again Conventional n c = rw (unopened_none (with_opens r 0) c, unopened_none (with_opens r (n - 1)) c)
  open_again Sequential zero c = by (issues (open_row explicit Sequential (with_opens r 0)) c)
    where
      by : (b : Bool) → b && false ≡ b && false && true
      by true = refl
      by false = refl
  open_again Sequential (suc zero) c = by (issues (open_row explicit Sequential (with_opens r 0)) c)
    where
      by : (b : Bool) → b && true ≡ b && true && true
      by true = refl
      by false = refl
  open_again Sequential (suc (suc n)) c =
      let e : suc (suc n) - 1 ≡ suc n = omega arith in
      let f : eqb (suc (suc n)) 1 ≡ false = ne_eqb (suc (suc n)) 1 (λ q. omega arith) in
      rw (e, f, further n c) (by (issues (open_row explicit Sequential (with_opens r 0)) c))
    where
      by : (b : Bool) → b && false ≡ false
      by true = refl
      by false = refl

  close_again : (k : FileKind) (n : ℕ) (c : Command)
      → issues (close_row explicit k (with_opens r 1)) c && eqb n 0 && is_write r.access ≡ issues (close_row explicit k (with_opens r (n + 1))) c && eqb (opens_after k Call.Close (n + 1)) n && openable (with_opens r (n + 1))
  close_again Conventional n c = rw (unclosed_none (with_opens r 1) c, unclosed_none (with_opens r (n + 1)) c)
  close_again Sequential zero c = refl
  close_again Sequential (suc n) c =
      let e : suc n + 1 ≡ suc (suc n) = omega arith in
      let f : eqb (suc n) 0 ≡ false = ne_eqb (suc n) 0 (λ q. omega arith) in
      rw (e, f, not_last n c) (without (issues (close_row explicit Sequential (with_opens r 1)) c) (is_write r.access))

  pub by_kind : openable r ≡ true → (j : CommandKind) (a l : ℕ) → let c : Command = record { kind = j; address = a; length = l } in again_by j c ≡ issuable explicit block k r c
  unfolding issuable
  by_kind sure kind.Read a l = plain _ r.opens sure
  by_kind sure kind.Write a l = plain _ r.opens sure
  by_kind sure kind.Reset a l = plain _ r.opens sure
  by_kind sure kind.Finish a l = plain _ r.opens sure
  by_kind sure kind.Flush a l = plain _ r.opens sure
  by_kind sure kind.Open a l = open_again k r.opens _
  by_kind sure kind.Close a l = close_again k r.opens _

  -- of a command whose kind is known
  pub again_of : (c : Command) (j : CommandKind) → c.kind ≡ j → openable r ≡ true → again_by j c ≡ issuable explicit block k r c
  again_of c j e sure = subst (λ (i : CommandKind). again_by i c ≡ issuable explicit block k r c) e (by_kind sure c.kind c.address c.length)
