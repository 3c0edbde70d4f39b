-- A tape that is played block by block: what was put, with the text of the rest, is the text of the tape.
-- Assumes nothing.
use mathlib.Core.Path.{◌≡◌, refl, sym, ap, subst, ◌∙◌}
use mathlib.Core.List.{List, [], ◌++◌, append_assoc, append-nil}
use mathlib.Core.Bool.{Bool, true, false, false≢true, ◌&&◌}
use Prim.Native.Nat.{ℕ, ◌+◌, ◌≤◌, ◌<◌}
use native.Mathlib.Omega.{arith}
use lib.Dec.{leb}
use lib.ListN.{length, take, length-append}
use lib.Seq.{sets, length-sets}
use borrow.Author.Tests.{leb-true, leb-false, le-leb, lt-leb}
use Rattle.types.proofs.Tests.{both, cases}
use Rattle.text.specs.Facts.{Put, Fills}
use Rattle.text.proofs.Stores.{then, nothing, sets-append}
use Rattle.tape_lines.specs.Facts.{line_room}
use Rattle.tape_turns.specs.declared.Turned.{Turned}
use Rattle.tape_turns.specs.Turns.{Rest, Turn, open_turn}
use Rattle.tape_turns.specs.Facts.{rest_of, Takes}
use Rattle.tape.specs.Tape.{goes_further, text_from, text_with, played_to, played_into}
use Rattle.tape.specs.Blocks.{block_of}
use Rattle.tape.specs.Facts.{Plays, Copies}
use Rattle.tape_lines.proofs.Stores.{sets_out}
use Rattle.tape.proofs.Stores.{first_part_lem}
use Rattle.tape.proofs.Texts.{text_of, no_text, inside, left, left_less}
use Rattle.tape.proofs.Blocks.{block_text, block_onward}

-- ---- lines that were put at the start of some bytes, and copied from there

pub copied : {t : Turn} {before after out out' cnv seq : List ℕ} {to : ℕ} {r end : Turned}
    → Plays t before after 0 r cnv seq → r.to ≤ length before → Copies r after out out' to end
    → Plays t out out' to end cnv seq
copied {t} {before} {after} {out} {out'} {to = to} {r} {end} p room q =
    let n : r.to ≡ length t.line = omega (arith, p.lines.place) in
    let e : take r.to after ≡ t.line = rw (n, p.lines.bytes) (first_part_lem before t.line (omega (arith, room))) in
    record {
      lines = subst (λ (l : List ℕ). Put out out' to end.to l) e q.copy;
      rest = cc p.rest;
    }

-- one turn is a block of one record
pub played : {t : Turn} {before after cnv seq : List ℕ} {to : ℕ} {r : Turned} → Takes t before after to r cnv seq → Plays t before after to r cnv seq
played p = record { lines = p.line; rest = p.rest }

-- where a record is left and there is room for its line, a block leaves less
pub fewer : {mid now cnv seq : List ℕ} {to : ℕ} (b : List ℕ) (r : Rest) (t : Turned) → goes_further b r ≡ true
    → Plays (block_of true b 0 line_room r) mid now to t cnv seq → left b (rest_of t cnv seq) < left b r
fewer b r t e p =
    subst (λ (x : Rest). left b x < left b r) (sym p.rest)
    (left_less b r (block_of true b 0 line_room r).rest e (block_onward (length b) true b 0 line_room r (omega (arith, inside b r e)) (both e refl)))

-- ---- what holds between blocks

-- of the text that is due, `sofar` was put, and the rest is the text of what is left
pub record Going (whole before now b : List ℕ) (from to : ℕ) (r : Rest) : Type 0 where
  pub sofar : List ℕ
  pub put : Put before now from to sofar
  pub split : sofar ++ text_of b r ≡ whole

pub begin : (before b : List ℕ) (to : ℕ) (r : Rest) → Going (text_of b r) before before b to to r
begin before b to r = record {
  sofar = [];
  put = nothing before to;
  split = refl;
}

block_of_all : (b : List ℕ) (to room : ℕ) (r : Rest) → text_of b r ≡ (block_of true b to room r).line ++ text_of b (block_of true b to room r).rest
block_of_all b to room r =
    let k : b ++ [] ≡ b = append-nil b in
    sym (ap (λ (x : List ℕ). text_of x r) k)
    ∙ block_text (length b) true b [] to room r (λ _. refl)
    ∙ ap (λ (x : List ℕ). (block_of true b to room r).line ++ text_of x (block_of true b to room r).rest) k

pub again : {whole before mid now b cnv seq : List ℕ} {from to : ℕ} {r : Rest} (t : Turned) → Going whole before mid b from to r
    → Plays (block_of true b 0 line_room r) mid now to t cnv seq → Going whole before now b from t.to (rest_of t cnv seq)
again {b = b} {r = r} t g p =
    let block = block_of true b 0 line_room r in
    record {
      sofar = g.sofar ++ block.line;
      put = then g.put p.lines;
      split =
          ap (λ (x : Rest). (g.sofar ++ block.line) ++ text_of b x) p.rest
          ∙ append_assoc g.sofar block.line (text_of b block.rest)
          ∙ ap (λ (x : List ℕ). g.sofar ++ x) (sym (block_of_all b 0 line_room r))
          ∙ g.split;
    }

-- ---- at the end

-- the tape has stopped
stopped : {whole before now b : List ℕ} {from to : ℕ} {r : Rest} → Going whole before now b from to r → goes_further b r ≡ false → Put before now from to whole
stopped {whole = whole} {b = b} {r = r} g e =
    let all : g.sofar ≡ whole = sym (append-nil g.sofar) ∙ ap (λ (x : List ℕ). g.sofar ++ x) (sym (no_text (length b) b r e)) ∙ g.split in
    rw all at g.put

-- there was too little room
cut : {whole before now b : List ℕ} {from to : ℕ} {r : Rest} → Going whole before now b from to r → length before < to
    → (now ≡ sets before from whole) × (length before < from + length whole)
cut {before = before} {b = b} {from = from} {r = r} g h =
    let rest = text_of b r in
    let full : length (sets before from g.sofar) ≤ from + length g.sofar = rw (length-sets before from g.sofar) (omega (arith, g.put.place)) in (
      g.put.bytes
          ∙ sym (sets_out rest (sets before from g.sofar) (from + length g.sofar) full)
          ∙ sets-append g.sofar rest before from
          ∙ ap (λ (x : List ℕ). sets before from x) g.split,
      omega (arith, g.put.place, length-append g.sofar rest, ap length g.split),
    )

-- one or the other
pub over : {whole before now b : List ℕ} {from to : ℕ} {r : Rest} → Going whole before now b from to r
    → goes_further b r && leb to (length before) ≡ false → Fills before now from to whole
over {whole = whole} {before = before} {now = now} {b = b} {from = from} {to = to} {r = r} g e =
    let fits : to ≤ length before → Put before now from to whole = λ h. stopped g (not_both (goes_further b r) _ e (le-leb to (length before) h)) in
    record {
      bytes = cases (leb to (length before)) (λ h. (fits (leb-true to (length before) h)).bytes) (λ h. (cut g (leb-false to (length before) h)).0);
      place = λ h. (fits h).place;
      short = λ h. (cut g h).1;
    }
  where
    not_both : (s t : Bool) → s && t ≡ false → t ≡ true → s ≡ false
    not_both true t d h = absurd (false≢true (sym d ∙ h))
    not_both false t d h = refl

-- a line, and the text of the rest after it
whole_text : {before mid now line rest : List ℕ} {to end : ℕ} → Put before mid 0 to line → Fills mid now to end rest → Fills before now 0 end (line ++ rest)
whole_text {before} {mid} {now} {line} {rest} {to} {end} p f =
    let same : length mid ≡ length before = ap length p.bytes ∙ length-sets before 0 line in
    record {
      bytes = f.bytes ∙ ap (λ (n : ℕ). sets mid n rest) p.place ∙ ap (λ (l : List ℕ). sets l (0 + length line) rest) p.bytes ∙ sets-append line rest before 0;
      place = λ h. omega (arith, f.place (omega arith), p.place, length-append line rest);
      short = λ h. omega (arith, f.short (omega arith), p.place, length-append line rest);
    }

pub tape_text_lem : {before mid now cnv' seq' : List ℕ} {end : ℕ} {t : Turned} (b cnv seq : List ℕ) → Plays (open_turn b cnv seq) before mid 0 t cnv' seq'
    → Fills mid now t.to end (text_from (length b) b (rest_of t cnv' seq')) → Fills before now 0 end (text_with b cnv seq)
unfolding text_with
tape_text_lem {before} {mid} {now} {end = end} b cnv seq p f =
    subst (λ (r : Rest). Fills before now 0 end ((open_turn b cnv seq).line ++ text_from (length b) b r)) p.rest (whole_text p.lines f)

-- the answer
filled-length : {before now : List ℕ} {end : ℕ} {text : List ℕ} → Fills before now 0 end text → length now ≡ length before
filled-length {before} {text = text} f = ap length f.bytes ∙ length-sets before 0 text

pub answered : {before now : List ℕ} {end : ℕ} (text : List ℕ) → Fills before now 0 end text → played_to end (length now) ≡ played_into (length before) text
answered {before} {now} {end} text f = ap (played_to end) (filled-length f) ∙ cases (leb end (length before)) fits short
  where
    fits : leb end (length before) ≡ true → played_to end (length before) ≡ played_into (length before) text
    fits h = ap (λ (n : ℕ). played_to n (length before)) (omega (arith, f.place (leb-true end (length before) h)))

    short : leb end (length before) ≡ false → played_to end (length before) ≡ played_into (length before) text
    short h = rw (h, lt-leb (length text) (length before) (omega (arith, f.short (leb-false end (length before) h))))
