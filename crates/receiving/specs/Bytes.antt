-- 02, K4: "let the report arrive in pieces cut anywhere": what one byte does. A piece is its bytes one after the other, so that two pieces do what the
-- one does that they make together (the law `fed_join`), and where they are cut makes no difference.
use Rattle.std.specs.Prelude.{ℕ, ◌+◌, List, [], ◌∷◌, Bool, cond, ◌&&◌, set, replicate, eqb, leb, Ok, Err}
use Rattle.types.specs.declared.Refusal.TheVariants.{BadReport}
use Rattle.types.specs.Answers.{Verdict}
use Rattle.zones.specs.Zone.{zone_bytes, zone_at}
use Rattle.report.specs.Report.{header_bytes}
use Rattle.intake.specs.declared.Rule.{Rule}
use Rattle.intake.specs.declared.Intake.{Intake}
use Rattle.intake.specs.Steps.{Taking, nothing_taken, refused_with, header_taken, zone_taken}
use Rattle.receiving.specs.declared.Received.{Received}

-- what has been received of a report, and both tables
pub record Receiving : Type 0 where
  pub received : Received
  pub cnv : List ℕ
  pub seq : List ℕ

-- ---- the header or zone that comes next

-- how many bytes it has
abbrev pub unit_bytes : Intake → ℕ
unit_bytes i = cond (eqb i.count 0) header_bytes zone_bytes

-- none comes: all zones that the header counts have been taken
abbrev pub complete : Intake → Bool
complete i = leb 1 i.count && leb i.count i.walk.number

-- it is there, and begins these bytes
unfoldable pub unit_taken : Rule → Taking → List ℕ → Taking
unit_taken r s b =
    cond (eqb s.intake.count 0) (record { intake = header_taken s.intake b; cnv = s.cnv; seq = s.seq })
    (zone_taken r s (zone_at s.intake.given b 0))

-- ---- "Held between pieces: one unfinished zone", or the header

abbrev pub no_bytes : List ℕ
no_bytes = replicate zone_bytes 0

abbrev pub wholly : Intake → Received
wholly i = record { intake = i; part = no_bytes; held = 0 }

-- before the first byte
abbrev pub nothing_received : Received
nothing_received = wholly nothing_taken

-- after a header or zone that is whole
abbrev pub between : Taking → Receiving
between s = record { received = wholly s.intake; cnv = s.cnv; seq = s.seq }

-- ---- one byte

-- so many bytes of the next header or zone are there: it is taken once they are all
unfoldable pub collected : Rule → Receiving → List ℕ → ℕ → Receiving
collected r s part held =
    cond (eqb held (unit_bytes s.received.intake))
    (between (unit_taken r (record { intake = s.received.intake; cnv = s.cnv; seq = s.seq }) part))
    (record { received = record { intake = s.received.intake; part = part; held = held }; cnv = s.cnv; seq = s.seq })

-- "a missing or extra byte (28) at its place": a byte after the count's last zone, when it arrives
abbrev pub extra_byte : Received → Received
extra_byte x = record { intake = refused_with x.intake BadReport; part = x.part; held = x.held }

abbrev pub extra : Receiving → Receiving
extra s = record { received = extra_byte s.received; cnv = s.cnv; seq = s.seq }

-- after a refusal every further byte changes nothing, so that it is answered again
abbrev pub byte_after : Verdict → Rule → Receiving → ℕ → Receiving
byte_after (Err x) r s c = s
byte_after (Ok tt) r s c =
    cond (complete s.received.intake) (extra s) (collected r s (set s.received.part s.received.held c) (s.received.held + 1))

unfoldable pub byte_taken : Rule → Receiving → ℕ → Receiving
byte_taken r s c = byte_after s.received.intake.check r s c

-- ---- the bytes of a piece, one after the other
unfoldable pub fed : Rule → Receiving → List ℕ → Receiving
fed r s [] = s
fed r s (c ∷ cs) = fed r (byte_taken r s c) cs
