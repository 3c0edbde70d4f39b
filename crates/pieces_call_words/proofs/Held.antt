-- What begin, a piece and the end hand out is always held by the words that they write: every number is within its width, and the checks have found
-- nothing but what a report leads to.
-- Assumes nothing.
use Rattle.std.specs.Prelude.{Option, Ok, Err, Some}
use Prim.Native.Nat.{ℕ, zero, suc, ◌+◌, ◌^◌, ◌≤◌, ◌<◌}
use native.Mathlib.Omega.{arith}
use mathlib.Core.Path.{◌≡◌, refl, ◌∙◌}
use mathlib.Core.Bool.{Bool, true, false, not}
use mathlib.Core.List.{List, [], ◌∷◌}
use lib.Dec.{eqb}
use lib.ListN.{length, get_or, set, length-set}
use Rattle.types.specs.Codes.{fault_code}
use Rattle.types.specs.Verdicts.{refuse, and_then}
use Rattle.types.specs.Mounts.{empty_mount}
use Rattle.types.specs.declared.Mount.{Mount}
use Rattle.types.specs.declared.ZoneFault.{ZoneFault}
use Rattle.types.specs.declared.ZoneFault.TheVariants as fault
use Rattle.types.specs.declared.Refusal.TheVariants.{BadReport, BadZone}
use Rattle.types.specs.Answers.{Verdict}
use Rattle.types.proofs.Tests.{cases}
use Rattle.types.proofs.Volumes.{BoundedVolume}
use Rattle.table.specs.Rows.{rows_lent}
use Rattle.superblock.specs.declared.SuperBlock.{SuperBlock}
use Rattle.superblock.specs.SuperBlock.{super_read, found_in, fields_in}
use Rattle.superblock.proofs.Bounds.{zero_bytes, BoundedFields, fields_bounded}
use Rattle.options.specs.Options.{Options}
use Rattle.options.specs.Options.{options_of}
use Rattle.zones.specs.declared.Zone.{Zone}
use Rattle.zones.specs.Zone.{zone_at, good_zone}
use Rattle.zones.specs.Faults as faults
use Rattle.zones.specs.Faults.{fault_unless, zone_fault}
use Rattle.zones.proofs.Faults.{zone_faultless, some_fault}
use Rattle.report.specs.Report.{good_fields}
use Rattle.mount.specs.Mount.{opening_check, aggregated}
use Rattle.intake.specs.declared.Rule.{Rule}
use Rattle.intake.specs.declared.Intake.{Intake}
use Rattle.intake.specs.Steps.{Taking, header_taken, no_row, filed, good_taken, zone_taken}
use Rattle.intake.specs.Facts.{BoundedIntake}
use Rattle.receiving.specs.declared.Received.{Received}
use Rattle.pieces.specs.declared.Pieces.{Pieces}
use Rattle.receiving.specs.Bytes.{Receiving, unit_bytes, complete, unit_taken, nothing_received, collected, byte_after, byte_taken, fed}
use Rattle.receiving.specs.Facts.{BoundedReceived}
use Rattle.pieces.specs.Pieces.{found_mount, begun_as, begin_outcome, possible_pieces, rule_of, piece_outcome, end_check, end_outcome}
use Rattle.pieces.proofs.Possible.{possible-told}
use Rattle.receiving.proofs.Bounds.{fed_bounded}
use Rattle.mount_words.proofs.Laws.{BoundedAccount}
use Rattle.pieces_words.proofs.Back.{Findable, passed, report, zone, rows, BoundedPieces}

-- WHAT IS FOUND

-- one test more
one_reason : (t : Bool) (x : ZoneFault) (rest : Option ZoneFault) → fault_code (Some x) ≤ 7 → fault_code rest ≤ 7 → fault_code (fault_unless t x rest) ≤ 7
unfolding fault_unless
one_reason true x rest here there = there
one_reason false x rest here there = here

-- a zone's reason is one of seven, or none
reason_small : (unit e : ℕ) (z : Zone) → fault_code (zone_fault unit e z) ≤ 7
unfolding zone_fault faults.first_fault
reason_small unit e z =
    one_reason _ _ _ (omega arith) (one_reason _ _ _ (omega arith) (one_reason _ _ _ (omega arith) (one_reason _ _ _ (omega arith)
    (one_reason _ _ _ (omega arith) (one_reason _ _ _ (omega arith) (one_reason _ _ _ (omega arith) (omega arith)))))))

some_reason : (x : ZoneFault) → 1 ≤ fault_code (Some x)
some_reason fault.Start = omega arith
some_reason fault.Length = omega arith
some_reason fault.Capacity = omega arith
some_reason fault.End = omega arith
some_reason fault.Type = omega arith
some_reason fault.Condition = omega arith
some_reason fault.Pointer = omega arith
some_reason fault.OtherZone = omega arith
some_reason fault.BetterCondition = omega arith

bad_found : (unit e number : ℕ) (z : Zone) → number < 2 ^ 32 → good_zone unit e z ≡ false → Findable (Err (BadZone number (zone_fault unit e z)))
bad_found unit e number z small bad =
    let (x, is) = some_fault (zone_fault unit e z) (zone_faultless unit e z ∙ bad) in
    zone small (rw is (some_reason x)) (reason_small unit e z)

header_found : (i : Intake) (h : List ℕ) → Findable i.check → Findable (header_taken i h).check
unfolding header_taken
header_found i h f = cases (good_fields h) (λ good. rw good f) (λ bad. rw bad report)

zone_found_lem : (r : Rule) (s : Taking) (z : Zone) → s.intake.walk.number < 2 ^ 32 → Findable s.intake.check → Findable (zone_taken r s z).intake.check
unfolding zone_taken good_taken filed
zone_found_lem r s z small f =
    cases (good_zone r.unit s.intake.walk.expected z)
    (λ good. rw good
    (cases (no_row r.aggregate s.intake.count s.intake.walk z (rows_lent (length s.cnv)) (rows_lent (length s.seq)))
    (λ short. rw short rows)
    (λ long. rw long passed)))
    (λ bad. rw bad (bad_found r.unit s.intake.walk.expected s.intake.walk.number z small bad))

unit_found : (r : Rule) (s : Taking) (b : List ℕ) → BoundedIntake s.intake → Findable s.intake.check → Findable (unit_taken r s b).intake.check
unfolding unit_taken
unit_found r s b bounded f =
    cases (eqb s.intake.count 0)
    (λ none. rw none (header_found s.intake b f))
    (λ known. rw known (zone_found_lem r s (zone_at s.intake.given b 0) (omega (arith, bounded.number, bounded.count)) f))

-- WHAT IS RECEIVED

set_bytes : (b : List ℕ) (i c : ℕ) → ((k : ℕ) → get_or b k 0 < 256) → c < 256 → (k : ℕ) → get_or (set b i c) k 0 < 256
set_bytes [] i c small new k = omega arith
set_bytes (x ∷ b) zero c small new zero = new
set_bytes (x ∷ b) zero c small new (suc k) = small (suc k)
set_bytes (x ∷ b) (suc i) c small new zero = small 0
set_bytes (x ∷ b) (suc i) c small new (suc k) = set_bytes b i c (λ j. small (suc j)) new k

-- what its words hold exactly, beside its numbers
record Receivable (x : Received) : Type 0 where
  pub check : Findable x.intake.check
  pub bytes : (k : ℕ) → get_or x.part k 0 < 256
  pub sixty_four : length x.part ≡ 64

nothing_held : Receivable nothing_received
nothing_held = record { check = passed; bytes = zero_bytes 64; sixty_four = refl }

module _ (r : Rule) (s : Receiving) (b : BoundedReceived s.received) (h : Receivable s.received) (c : ℕ) (small : c < 256) where
  collected_held : Receivable (collected r s (set s.received.part s.received.held c) (s.received.held + 1)).received
  unfolding collected
  collected_held =
      let x = s.received in
      let part = set x.part x.held c in
      cases (eqb (x.held + 1) (unit_bytes x.intake))
      (λ all. rw all (record {
        check = unit_found r (record { intake = x.intake; cnv = s.cnv; seq = s.seq }) part b.intake h.check;
        bytes = zero_bytes 64;
        sixty_four = refl;
      }))
      (λ fewer. rw fewer (record {
        check = h.check;
        bytes = set_bytes x.part x.held c h.bytes small;
        sixty_four = length-set x.part x.held c ∙ h.sixty_four;
      }))

  byte_held : Receivable (byte_taken r s c).received
  unfolding byte_taken
  byte_held = by s.received.intake.check
    where
      by : (v : Verdict) → Receivable (byte_after v r s c).received
      by (Ok tt) =
          cases (complete s.received.intake)
          (λ all. rw all (record { check = report; bytes = h.bytes; sixty_four = h.sixty_four }))
          (λ next. rw next collected_held)
      by (Err x) = h

fed_held : (r : Rule) (s : Receiving) (bytes : List ℕ) → ((k : ℕ) → get_or bytes k 0 < 256) → BoundedReceived s.received → Receivable s.received
    → Receivable (fed r s bytes).received
unfolding fed
fed_held r s [] small b h = h
fed_held r s (c ∷ cs) small b h =
    fed_held r (byte_taken r s c) cs (λ k. small (suc k)) (fed_bounded r s (c ∷ []) b) (byte_held r s b h c (small 0))

-- BEGIN, A PIECE, THE END

-- a mount value, with what was received for it
with_received : (m : Mount) (aggregate : Bool) (x : Received) → BoundedVolume m.volume → BoundedAccount m.account → Receivable x
    → x.intake.active < 2 ^ 32 → BoundedPieces (record { mount = m; aggregate = aggregate; received = x })
with_received m aggregate x v a h few =
    record { volume = v; account = a; check = h.check; active = few; bytes = h.bytes; sixty_four = h.sixty_four }

begun_as_lem : (v : Verdict) (block : ℕ) (f : SuperBlock) (o : Options) (open_limit active_limit : ℕ) (aggregate : Bool) → BoundedFields f → open_limit < 2 ^ 32
    → active_limit < 2 ^ 32 → BoundedPieces (begun_as v (found_mount block f o open_limit active_limit) aggregate)
unfolding begun_as
begun_as_lem (Ok tt) block f o open_limit active_limit aggregate fields first second =
    with_received (found_mount block f o open_limit active_limit) aggregate nothing_received
    (record {
      conventional = omega arith;
      sequential = omega arith;
      owner = fields.owner;
      group = fields.group;
      mode = fields.mode;
      bytes = fields.bytes;
      sixteen = fields.sixteen;
    })
    (record { opened = omega arith; active = omega arith; open_limit = first; active_limit = second }) nothing_held (omega arith)
begun_as_lem (Err x) block f o open_limit active_limit aggregate fields first second =
    with_received empty_mount false nothing_received
    (record {
      conventional = omega arith;
      sequential = omega arith;
      owner = omega arith;
      group = omega arith;
      mode = omega arith;
      bytes = zero_bytes 16;
      sixteen = refl;
    })
    (record { opened = omega arith; active = omega arith; open_limit = omega arith; active_limit = omega arith }) nothing_held (omega arith)

pub begun_held : (block : ℕ) (superblock options : List ℕ) (open_limit active_limit : ℕ) → ((k : ℕ) → get_or superblock k 0 < 256) → open_limit < 2 ^ 32
    → active_limit < 2 ^ 32 → BoundedPieces (begin_outcome block superblock options open_limit active_limit).pieces
unfolding begin_outcome
begun_held block superblock options open_limit active_limit bytes first second =
    begun_as_lem (opening_check block (found_in (super_read superblock)) (options_of options)) block (fields_in (super_read superblock)) (options_of options) open_limit active_limit
    (aggregated superblock) (fields_bounded superblock bytes) first second

module _ (p : Pieces) (b : BoundedPieces p) where
  held : Receivable p.received
  held = record { check = b.check; bytes = b.bytes; sixty_four = b.sixty_four }

  pub piece_held : (bytes cnv seq : List ℕ) → ((k : ℕ) → get_or bytes k 0 < 256) → BoundedPieces (piece_outcome p bytes cnv seq).pieces
  unfolding piece_outcome
  piece_held bytes cnv seq small =
      cases (possible_pieces p)
      (λ can.
      let s : Receiving = record { received = p.received; cnv = cnv; seq = seq } in
      let now = (possible-told p can).1 in
      let then = (fed_bounded (rule_of p) s bytes now).intake in
      rw can (with_received p.mount p.aggregate _ b.volume b.account (fed_held (rule_of p) s bytes small now held)
      (omega (arith, then.active, then.walk.seqs, then.number, then.count))))
      (λ cannot. rw cannot b)

  ended_found : (v : Verdict) (all : Bool) → Findable v → Findable (and_then v (refuse (not all) BadReport (Ok tt)))
  unfolding and_then refuse
  ended_found (Ok tt) true f = passed
  ended_found (Ok tt) false f = report
  ended_found (Err x) all f = f

  pub end_held : BoundedPieces (end_outcome p).pieces
  unfolding end_outcome end_check
  end_held =
      cases (possible_pieces p)
      (λ can. rw can (with_received p.mount p.aggregate _ b.volume b.account
      (record {
        check = ended_found p.received.intake.check (complete p.received.intake) b.check;
        bytes = b.bytes;
        sixty_four = b.sixty_four;
      })
      b.active))
      (λ cannot. rw cannot b)
