-- The reader's type at a function's lifetime, as every walk over a reader has it, and what is asked of a reader to have a next zone.
-- Assumes nothing.
use Prim.Native.Nat.{◌<◌}
use contract.Lifetimes.{Lfts}
use denote.RattleType.{RattleType}
use denote.Signature.{named_lft}
use denote.Struct.Declared.{Declared}
use denote.Struct.Laws as LL
use Rattle.report.specs.declared.Reader.{Reader}
use Rattle.report.specs.Report.{zone_count}
use Rattle.report.specs.Facts.{Framed}
use Rattle.report.specs.contracts.Reader as T
use Rattle.report.proofs.Reader.TheLaws as T'

abbrev pub Ready : Reader → Type 0
Ready r = Framed r.report.now × (r.next < zone_count r.report.now)

-- the row, the declared type, and its laws
abbrev pub Row : Lfts 1 → RattleType
Row κs = T.the_row (named_lft 1 0 tt κs)

abbrev pub Held : Lfts 1 → Declared
Held κs = T.the_type (named_lft 1 0 tt κs)

abbrev pub laws : (κs : Lfts 1) → LL.Laws (Held κs)
laws κs = T'.the_laws (named_lft 1 0 tt κs)
