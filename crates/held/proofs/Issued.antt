-- What a command tells of its row: that a call on the row issues it.
-- Assumes nothing.
use Rattle.std.specs.Prelude.{Ok}
use mathlib.Core.Bool.{Bool, true, false, not, cond, ◌&&◌, false≢true}
use mathlib.Core.Path.{◌≡◌, refl, sym, ap, ◌∙◌, subst}
use Prim.Native.Nat.{ℕ, ◌+◌, ◌%◌, ◌≤◌, ◌<◌}
use native.Mathlib.Omega.{arith}
use native.Mathlib.Decide.{ℕ_discrete}
use lib.Dec.{eqb}
use borrow.Author.Tests.{eqb-true, not-false}
use Rattle.types.specs.declared.Row.{Row}
use Rattle.types.specs.declared.Call.{Call}
use Rattle.types.specs.declared.Command.{Command}
use Rattle.types.specs.declared.CommandKind.TheVariants as kind
use Rattle.types.specs.declared.Movement.{Movement}
use Rattle.types.specs.declared.Movement.TheVariants.{Stays, Advances}
use Rattle.types.specs.declared.FileKind.{FileKind}
use Rattle.types.specs.declared.FileKind.TheVariants.{Conventional, Sequential}
use Rattle.types.specs.declared.Access.{Access}
use Rattle.types.specs.declared.Granted.TheVariants.{Issue}
use Rattle.types.specs.Blocks.{bytes_of, on_block}
use Rattle.types.specs.Commands.{movement_of}
use Rattle.types.specs.Predicates.{is_none, is_write}
use Rattle.types.proofs.Tests.{and_right, or_left, or_right, means_out}
use Rattle.account.specs.Account.{is_open}
use Rattle.checks.specs.Checks.{openable}
use Rattle.decision.specs.Decision.{unwritable, bad_target, misplaced, answer_on}
use Rattle.decision.proofs.Laws.{read_issued, write_issued, truncate_issued, flush_issued, open_issued, close_issued}
use Rattle.held.specs.Held.{reissue, stood_before, issuable}
use Rattle.held.proofs.Issuable.{issuable_call, issuable-openable}
use Rattle.held.proofs.Commands.{InFile, issuable_in}

-- its address lies in the file
pub record Within (r : Row) (x : ℕ) : Type 0 where
  pub low : bytes_of r.start ≤ x
  pub high : x < bytes_of r.start + r.capacity

-- what it appends goes to the file's end, in whole blocks
pub record Placed (block : ℕ) (r : Row) (c : Command) : Type 0 where
  pub place : c.address ≡ bytes_of r.start + r.size
  pub room : r.size + c.length ≤ r.capacity
  pub whole : c.length % block ≡ 0

pub record Issued (block : ℕ) (k : FileKind) (r : Row) (c : Command) : Type 0 where
  pub readable : is_none r.access ≡ false
  pub within : 0 < r.capacity → Within r c.address
  pub placed : k ≡ Sequential → movement_of c.kind ≡ Advances → Placed block r c
  -- "truncating cnv" is refused: neither a reset nor a finish
  pub untruncated : k ≡ Conventional → (movement_of c.kind ≡ Stays → ⊥) → movement_of c.kind ≡ Advances

address_within : {r : Row} {c : Command} → InFile r c → 0 < r.capacity → Within r c.address
address_within {r} {c} i some = elim (ℕ_discrete c.length 0) [
  | yes e ↦ record { low = i.low; high = omega (arith, i.first e) }
  | no d ↦ record { low = i.low; high = omega (arith, i.high, d) }
]

writable : (x : Access) → unwritable x ≡ false → is_none x ≡ false
writable Access.Nothing e = e
writable Access.Read e = refl
writable Access.Write e = refl

writing : (x : Access) → is_write x ≡ true → is_none x ≡ false
writing Access.Nothing e = absurd (false≢true e)
writing Access.Read e = refl
writing Access.Write e = refl

truncates : (t : Bool) → movement_of (cond t kind.Reset kind.Finish) ≡ Advances → ⊥
truncates true e = let x : ◌≡◌ {A = ℕ} 0 1 = cc in omega arith
truncates false e = let x : ◌≡◌ {A = ℕ} 0 1 = cc in omega arith

stays : Stays ≡ Advances → ⊥
stays e = let x : ◌≡◌ {A = ℕ} 0 1 = cc in omega arith

no_target : (k : FileKind) (c t : ℕ) → bad_target k c t ≡ false → k ≡ Conventional → ⊥
no_target Conventional c t e f = false≢true (sym e)
no_target Sequential c t e f = let x : ◌≡◌ {A = ℕ} 0 1 = cc in omega arith

abbrev movement_in : Command → Movement
movement_in c = movement_of c.kind

issued_tells : (explicit : Bool) (block : ℕ) (k : FileKind) (r : Row) (x : Call) (c : Command) → openable r ≡ true → InFile r c → answer_on explicit block k r x ≡ Ok (Issue c) → Issued block k r c
issued_tells explicit block k r (Call.Read o n) c sure at g =
    let w = read_issued r o n c g in
    let still = ap movement_in w.command in
    record {
      readable = w.checked.readable;
      within = address_within at;
      placed = λ s v. absurd (stays (still ∙ v));
      untruncated = λ s d. absurd (d (sym still));
    }
issued_tells explicit block k r (Call.Write o n) c sure at g =
    let w = write_issued explicit block k r o n c g in
    record {
      readable = writable r.access w.checked.writable;
      within = address_within at;
      placed = λ s v.
          let apt : misplaced Sequential block r.size o n ≡ false = subst (λ j. misplaced j block r.size o n ≡ false) s w.checked.placed in
          let on = not-false (on_block block o && on_block block n) (or_left _ _ apt) in
          let same : o ≡ r.size = eqb-true _ _ (not-false (eqb o r.size) (or_right (not (on_block block o && on_block block n)) _ apt)) in
          let there : bytes_of r.start + o ≡ c.address = ap (λ (c : Command). c.address) w.command in
          let long : n ≡ c.length = ap (λ (c : Command). c.length) w.command in
          record {
            place = omega arith;
            room = omega (arith, w.checked.fits);
            whole = subst (λ j. j % block ≡ 0) long (eqb-true _ _ (and_right (on_block block o) _ on));
          };
      untruncated = λ s d. sym (ap movement_in w.command);
    }
issued_tells explicit block k r (Call.Truncate t) c sure at g =
    let w = truncate_issued k r t c g in
    record {
      readable = writable r.access w.writable;
      within = address_within at;
      placed = λ s v. absurd (truncates (eqb t 0) (ap movement_in w.command ∙ v));
      untruncated = λ s d. absurd (no_target k r.capacity t w.good s);
    }
issued_tells explicit block k r Call.Flush c sure at g =
    let w = flush_issued r c g in
    let still = ap movement_in w.command in
    record {
      readable = writable r.access w.writable;
      within = address_within at;
      placed = λ s v. absurd (stays (still ∙ v));
      untruncated = λ s d. absurd (d (sym still));
    }
issued_tells explicit block k r Call.Open c sure at g =
    let w = open_issued explicit k r c g in
    let still = ap movement_in w.command in
    record {
      readable = writable r.access w.writable;
      within = address_within at;
      placed = λ s v. absurd (stays (still ∙ v));
      untruncated = λ s d. absurd (d (sym still));
    }
issued_tells explicit block k r Call.Close c sure at g =
    let w = close_issued explicit k r c g in
    let still = ap movement_in w.command in
    let one : is_open r ≡ true = rw w.last in
    record {
      readable = writing r.access (means_out (is_open r) _ sure one);
      within = address_within at;
      placed = λ s v. absurd (stays (still ∙ v));
      untruncated = λ s d. absurd (d (sym still));
    }

-- the file has its place whatever its opens
stood_in : (r : Row) (c : Command) → InFile r c → InFile (stood_before r c) c
stood_in r c at = record { low = at.low; high = at.high; first = at.first; none = at.none }

pub issuable_tells : (explicit : Bool) (block : ℕ) (k : FileKind) (r : Row) (c : Command) → issuable explicit block k r c ≡ true → Issued block k r c
issuable_tells explicit block k r c f =
    let w = issued_tells explicit block k (stood_before r c) (reissue r c) c (issuable-openable explicit block k r c f) (stood_in r c (issuable_in explicit block k r c f)) (issuable_call explicit block k r c f) in
    record {
      readable = w.readable;
      within = λ some. let v = w.within some in record { low = v.low; high = v.high };
      placed = λ s v. let p = w.placed s v in record { place = p.place; room = p.room; whole = p.whole };
      untruncated = w.untruncated;
    }
