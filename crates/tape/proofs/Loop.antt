-- What holds between the records of a block while it is played.
-- Assumes nothing.
use mathlib.Core.Path.{◌≡◌, refl, sym, ap, subst, ◌∙◌}
use mathlib.Core.List.{List, [], ◌++◌, append_assoc, append-nil}
use mathlib.Core.Bool.{Bool, true, false}
use Prim.Native.Nat.{ℕ, zero, suc, ◌+◌, ◌<◌}
use native.Mathlib.Omega.{arith}
use lib.ListN.{length}
use Rattle.types.proofs.Tests.{and_left}
use Rattle.text.specs.Facts.{Put}
use Rattle.text.proofs.Stores.{then, nothing}
use Rattle.tape_turns.specs.declared.Turned.{Turned}
use Rattle.tape_turns.specs.Turns.{Rest, Turn, turn_at}
use Rattle.tape_turns.specs.Facts.{rest_of, Takes}
use Rattle.tape.specs.Blocks.{is_ready, no_turn, line_then, block_from, block_of}
use Rattle.tape.specs.Facts.{Plays}
use Rattle.tape.proofs.Texts.{Enough, inside, next_enough, onward, left, left_less}
use Rattle.tape.proofs.Blocks.{ready_further}

next_block : (n : ℕ) (ended : Bool) (b : List ℕ) (to room : ℕ) (r : Rest) → is_ready r.more r.next ended (length b) to room ≡ true
    → block_from (suc n) ended b to room r
    ≡ line_then (turn_at b r.next r.state).line (block_from n ended b (to + length (turn_at b r.next r.state).line) room (turn_at b r.next r.state).rest)
unfolding block_from
next_block n ended b to room r e = rw e

no_block : (n : ℕ) (ended : Bool) (b : List ℕ) (to room : ℕ) (r : Rest) → is_ready r.more r.next ended (length b) to room ≡ false
    → block_from n ended b to room r ≡ no_turn r
unfolding block_from
no_block zero ended b to room r e = refl
no_block (suc n) ended b to room r e = rw e

-- of the block, `sofar` was put, and enough records are allowed for in the rest
pub record Block (whole : Turn) (before now b : List ℕ) (ended : Bool) (from to room : ℕ) (r : Rest) : Type 0 where
  pub sofar : List ℕ
  pub allowed : ℕ
  pub put : Put before now from to sofar
  pub split : line_then sofar (block_from allowed ended b to room r) ≡ whole
  pub enough : Enough allowed b r

pub begin : (before b : List ℕ) (ended : Bool) (to room : ℕ) (r : Rest) → Block (block_of ended b to room r) before before b ended to to room r
begin before b ended to room r = record {
  sofar = [];
  allowed = length b;
  put = nothing before to;
  split = refl;
  enough = λ _. omega arith;
}

pub again : {whole : Turn} {before mid now b cnv seq : List ℕ} {ended : Bool} {from to room : ℕ} {r : Rest} (t : Turned)
    → is_ready r.more r.next ended (length b) to room ≡ true → Takes (turn_at b r.next r.state) mid now to t cnv seq
    → Block whole before mid b ended from to room r → Block whole before now b ended from t.to room (rest_of t cnv seq)
again {whole} {before} {mid} {now} {b} {cnv} {seq} {ended} {from} {to} {room} {r} t e p g = by g.allowed g.split g.enough
  where
    by : (n : ℕ) → line_then g.sofar (block_from n ended b to room r) ≡ whole → Enough n b r → Block whole before now b ended from t.to room (rest_of t cnv seq)
    by zero s q = absurd (omega (arith, q (and_left r.more _ (ready_further r ended b to room e)), inside b r (ready_further r ended b to room e)))
    by (suc n) s q =
        let line = (turn_at b r.next r.state).line in
        let rest = (turn_at b r.next r.state).rest in
        let there : block_from n ended b t.to room (rest_of t cnv seq) ≡ block_from n ended b (to + length line) room rest =
        ap (λ (x : Rest). block_from n ended b t.to room x) p.rest ∙ ap (λ (i : ℕ). block_from n ended b i room rest) p.line.place in
        record {
          sofar = g.sofar ++ line;
          allowed = n;
          put = then g.put p.line;
          split =
              ap (λ (x : Turn). line_then (g.sofar ++ line) x) there
              ∙ ap (λ (l : List ℕ). record { line = l; rest = (block_from n ended b (to + length line) room rest).rest }) (append_assoc g.sofar line _)
              ∙ ap (λ (x : Turn). line_then g.sofar x) (sym (next_block n ended b to room r e))
              ∙ s;
          enough = subst (λ (x : Rest). Enough n b x) (sym p.rest) (next_enough n b r q (ready_further r ended b to room e));
        }

-- fewer can be left than before
pub less : {mid now cnv seq : List ℕ} {to : ℕ} (ended : Bool) (b : List ℕ) (room : ℕ) (r : Rest) (t : Turned)
    → is_ready r.more r.next ended (length b) to room ≡ true → Takes (turn_at b r.next r.state) mid now to t cnv seq
    → left b (rest_of t cnv seq) < left b r
less {to = to} ended b room r t e p =
    subst (λ (x : Rest). left b x < left b r) (sym p.rest)
    (left_less b r (turn_at b r.next r.state).rest (ready_further r ended b to room e) (onward b r.next r.state))

-- no further record is ready
pub over : {whole : Turn} {before now b cnv seq : List ℕ} {ended : Bool} {from room : ℕ} (t : Turned)
    → Block whole before now b ended from t.to room (rest_of t cnv seq) → is_ready t.more t.next ended (length b) t.to room ≡ false
    → Plays whole before now from t cnv seq
over {whole} {before} {now} {b} {cnv} {seq} {ended} {from} {room} t g e =
    let r = rest_of t cnv seq in
    let s : line_then g.sofar (no_turn r) ≡ whole = ap (λ (x : Turn). line_then g.sofar x) (sym (no_block g.allowed ended b t.to room r e)) ∙ g.split in
    record {
      lines = subst (λ (l : List ℕ). Put before now from t.to l) (sym (append-nil g.sofar) ∙ ap (λ (x : Turn). x.line) s) g.put;
      rest = ap (λ (x : Turn). x.rest) s;
    }
