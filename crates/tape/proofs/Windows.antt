-- A record, read from a part of a tape: neither what stands before it nor what follows it matters.
-- Assumes nothing.
use Rattle.std.specs.Prelude.{Option, Some, None}
use mathlib.Core.Path.{◌≡◌, refl, sym, ap, ◌∙◌}
use mathlib.Core.List.{List, ◌++◌}
use mathlib.Core.Bool.{Bool, true, false}
use Prim.Native.Nat.{ℕ, zero, suc, ◌+◌, ◌≤◌, ◌<◌}
use native.Mathlib.Omega.{arith}
use native.Mathlib.Nat.{add-zero, zero-add, add_assoc}
use lib.ListN.{length, get_or, take, drop, length-append, length-drop, get_or-append}
use lib.Seq.{get_or-drop, drop-drop, drop-append-le, take-append-le}
use Rattle.types.proofs.Tests.{leb-same}
use Rattle.types.specs.declared.Call.{Call}
use Rattle.types.specs.declared.Call.TheVariants as call
use Rattle.wire.specs.Le.{le}
use Rattle.zones.specs.Zone.{zone_bytes}
use Rattle.tape_records.specs.declared.Mark.{Mark}
use Rattle.tape_records.specs.declared.Mark.TheVariants as mark
use Rattle.tape_records.specs.declared.Record.{Record}
use Rattle.tape_records.specs.declared.Record.TheVariants.{OnFile, End}
use Rattle.tape_records.specs.Records.{holds, mark_bytes, named_bytes, failed_bytes, call_bytes, mark_at, kind_at, number_at, on_file_at, end_at, record_bytes, record_of, marked_at, record_at}
use Rattle.engine.specs.Engine.{State}
use Rattle.tape_turns.specs.Turns.{Turn, turn, turn_of, turn_at}
use Rattle.tape.specs.Blocks.{longest_record}

-- as far as the longest record reaches, two places show the same bytes, and as many
pub record Alike (b : List ℕ) (at : ℕ) (c : List ℕ) (there : ℕ) : Type 0 where
  pub byte : (i : ℕ) → i < longest_record → get_or b (at + i) 0 ≡ get_or c (there + i) 0
  pub long : (n : ℕ) → n ≤ longest_record → holds n b at ≡ holds n c there
  pub zone : take zone_bytes (drop (at + named_bytes) b) ≡ take zone_bytes (drop (there + named_bytes) c)

-- ---- the record there

pub number_alike : (n : ℕ) (b c : List ℕ) (at there : ℕ) → ((i : ℕ) → i < n → get_or b (at + i) 0 ≡ get_or c (there + i) 0) → le n b at ≡ le n c there
unfolding le
number_alike zero b c at there f = refl
number_alike (suc n) b c at there f =
    let first : get_or b at 0 ≡ get_or c there 0 = ap (λ i. get_or b i 0) (sym (add-zero at)) ∙ f 0 (omega arith) ∙ ap (λ i. get_or c i 0) (add-zero there) in
    let rest : le n b (at + 1) ≡ le n c (there + 1) =
    number_alike n b c (at + 1) (there + 1)
    (λ i h. ap (λ j. get_or b j 0) (omega arith) ∙ f (i + 1) (omega arith) ∙ ap (λ j. get_or c j 0) (omega arith)) in
    cc

module _ {b : List ℕ} {at : ℕ} {c : List ℕ} {there : ℕ} (a : Alike b at c there) where
  number : (n i : ℕ) → i + n ≤ longest_record → le n b (at + i) ≡ le n c (there + i)
  number n i h =
      number_alike n b c (at + i) (there + i)
      (λ j k. ap (λ m. get_or b m 0) (omega arith) ∙ a.byte (i + j) (omega arith) ∙ ap (λ m. get_or c m 0) (omega arith))

  mark_alike : mark_at b at ≡ mark_at c there
  mark_alike =
      let first : get_or b at 0 ≡ get_or c there 0 = ap (λ i. get_or b i 0) (sym (add-zero at)) ∙ a.byte 0 (omega arith) ∙ ap (λ i. get_or c i 0) (add-zero there) in
      rw (a.long mark_bytes (omega arith), first, a.byte 1 (omega arith))

  -- the file that it names
  kind_alike : kind_at b at ≡ kind_at c there
  kind_alike = a.byte 2 (omega arith)

  file_number_alike : number_at b at ≡ number_at c there
  file_number_alike = number 4 3 (omega arith)

  on_file_alike : (x : Call) → on_file_at b at x ≡ on_file_at c there x
  on_file_alike x = rw (kind_alike, file_number_alike)

  end_alike : (done : Bool) → end_at b at done ≡ end_at c there done
  end_alike done = rw (kind_alike, file_number_alike)

  record_alike_by : (m : Mark) → record_of m b at ≡ record_of m c there
  record_alike_by mark.Read = rw (number 8 7 (omega arith), number 8 15 (omega arith)) (on_file_alike _)
  record_alike_by mark.Write = rw (number 8 7 (omega arith), number 8 15 (omega arith)) (on_file_alike _)
  record_alike_by mark.Truncate = rw (number 8 15 (omega arith)) (on_file_alike _)
  record_alike_by mark.Flush = on_file_alike call.Flush
  record_alike_by mark.Open = on_file_alike call.Open
  record_alike_by mark.Close = on_file_alike call.Close
  record_alike_by mark.Good = end_alike true
  record_alike_by mark.Failed = end_alike false
  record_alike_by mark.Unknown = refl

  no_longer : (m : Mark) → record_bytes m ≤ longest_record
  no_longer mark.Read = omega arith
  no_longer mark.Write = omega arith
  no_longer mark.Truncate = omega arith
  no_longer mark.Flush = omega arith
  no_longer mark.Open = omega arith
  no_longer mark.Close = omega arith
  no_longer mark.Good = omega arith
  no_longer mark.Failed = omega arith
  no_longer mark.Unknown = omega arith

  marked_alike : (m : Mark) → marked_at m b at ≡ marked_at m c there
  marked_alike m = rw (a.long (record_bytes m) (no_longer m), record_alike_by m)

  record_alike : record_at b at ≡ record_at c there
  unfolding record_at
  record_alike = rw mark_alike (marked_alike (mark_at c there))

-- ---- its turn

-- the turn of a record that stands so many bytes further on
abbrev pub ahead : ℕ → Turn → Turn
ahead k t = record { line = t.line; rest = record { more = t.rest.more; next = k + t.rest.next; state = t.rest.state } }

nowhere : (t : Turn) → ahead 0 t ≡ t
nowhere t = ap (λ (n : ℕ). turn t.line t.rest.more n t.rest.state) (zero-add t.rest.next)

turn_alike_by : {b c : List ℕ} {at there : ℕ} (k : ℕ) → at ≡ k + there → Alike b at c there → (s : State) (x : Option Record) → turn_of b at s x ≡ ahead k (turn_of c there s x)
turn_alike_by {at = at} {there} k e a s (Some (OnFile kind n x)) = let p : at + call_bytes ≡ k + (there + call_bytes) = omega arith in rw p
turn_alike_by {at = at} {there} k e a s (Some (End kind n true)) = let p : at + named_bytes ≡ k + (there + named_bytes) = omega arith in rw p
turn_alike_by {at = at} {there} k e a s (Some (End kind n false)) = let p : at + failed_bytes ≡ k + (there + failed_bytes) = omega arith in rw (p, a.zone)
turn_alike_by k e a s None = rw e

turn_alike : {b c : List ℕ} {at there : ℕ} (k : ℕ) → at ≡ k + there → Alike b at c there → (s : State) → turn_at b at s ≡ ahead k (turn_at c there s)
unfolding turn_at
turn_alike {c = c} {there = there} k e a s = rw (record_alike a) (turn_alike_by k e a s (record_at c there))

-- ---- what follows, and what stands before

follows : (b f : List ℕ) (at : ℕ) → at + longest_record ≤ length b → Alike (b ++ f) at b at
follows b f at h = record {
  byte = λ i k. get_or-append b f 0 (at + i) (omega arith);
  long = λ n k. leb-same (at + n) (length (b ++ f)) (at + n) (length b) (λ _. omega arith) (λ _. omega (arith, length-append b f));
  zone = ap (take zone_bytes) (drop-append-le (at + named_bytes) b f (omega arith)) ∙ take-append-le zone_bytes (drop (at + named_bytes) b) f (omega (arith, length-drop (at + named_bytes) b));
}

before : (b : List ℕ) (k at : ℕ) → k ≤ length b → Alike b (k + at) (drop k b) at
before b k at h = record {
  byte = λ i p. ap (λ j. get_or b j 0) (add_assoc k at i) ∙ sym (get_or-drop k b (at + i) 0);
  long = λ n p. leb-same (k + at + n) (length b) (at + n) (length (drop k b)) (λ q. omega (arith, length-drop k b)) (λ q. omega (arith, length-drop k b));
  zone = ap (λ j. take zone_bytes (drop j b)) (add_assoc k at named_bytes) ∙ ap (take zone_bytes) (sym (drop-drop (at + named_bytes) k b));
}

-- a record that is whole is the same, whatever follows
pub turn_follows : (b f : List ℕ) (at : ℕ) (s : State) → at + longest_record ≤ length b → turn_at (b ++ f) at s ≡ turn_at b at s
turn_follows b f at s h = turn_alike 0 (omega arith) (follows b f at h) s ∙ nowhere (turn_at b at s)

-- and it is the same where what stands before it is gone
pub turn_before : (b : List ℕ) (k at : ℕ) (s : State) → k ≤ length b → turn_at b (k + at) s ≡ ahead k (turn_at (drop k b) at s)
turn_before b k at s h = turn_alike k refl (before b k at h) s
