-- 02, K4, as it is proved: the claims about a mount whose report arrives in pieces. Each holds for every report, every list of pieces that it is cut into,
-- and every table (the laws of the same names in `proofs/`).
use Rattle.std.specs.Prelude.{ℕ, Bool, ◌≡◌, List, [], ◌∷◌, ◌++◌, length, Ok, Err}
use Rattle.types.specs.declared.Refusal.{Refusal}
use Rattle.types.specs.Mounts.{empty_mount}
use Rattle.types.specs.Numbers.{mount_number}
use Rattle.types.specs.Answers.{Verdict}
use Rattle.table.specs.Rows.{rows_lent}
use Rattle.mount.specs.Fill.{fill}
use Rattle.mount.specs.Mount.{Mounting}
use Rattle.intake.specs.declared.Rule.{Rule}
use Rattle.pieces.specs.declared.Pieces.{Pieces}
use Rattle.receiving.specs.Bytes.{Receiving, nothing_received, fed}
use Rattle.pieces.specs.Pieces.{Beginning, Fed, Ended, piece_outcome, end_check, end_outcome}
use Rattle.first_fault.specs.FirstFault.{first_fault, end_fault, finished_cnv, finished_seq}

-- ---- what arrives in pieces

-- the bytes of all pieces
unfoldable pub joined : List (List ℕ) → List ℕ
joined [] = []
joined (b ∷ bs) = b ++ joined bs

-- begin, before the first piece
abbrev pub started : Beginning → List ℕ → List ℕ → Fed
started o cnv seq = record { answer = o.answer; pieces = o.pieces; cnv = cnv; seq = seq }

-- the pieces one after the other, each lent the tables as the one before left them
unfoldable pub in_pieces : Fed → List (List ℕ) → Fed
in_pieces f [] = f
in_pieces f (b ∷ bs) = in_pieces (piece_outcome f.pieces b f.cnv f.seq) bs

abbrev pub untaken : List ℕ → List ℕ → Receiving
untaken cnv seq = record { received = nothing_received; cnv = cnv; seq = seq }

-- ---- the claims

-- "with its first fault in byte order .., and the same rows whatever the cuts": after bytes b, and if they are all that come; of both tables only rows of
-- finished files are written
pub record FirstFault (r : Rule) (b cnv seq : List ℕ) : Type 0 where
  pub check : (fed r (untaken cnv seq) b).received.intake.check
      ≡ first_fault r.unit r.aggregate (rows_lent (length cnv)) (rows_lent (length seq)) b
  pub ends : end_check (fed r (untaken cnv seq) b).received.intake
      ≡ end_fault r.unit r.aggregate (rows_lent (length cnv)) (rows_lent (length seq)) b
  pub cnvs : (fed r (untaken cnv seq) b).cnv ≡ fill cnv (finished_cnv r.unit r.aggregate (rows_lent (length cnv)) (rows_lent (length seq)) b)
  pub seqs : (fed r (untaken cnv seq) b).seq ≡ fill seq (finished_seq r.unit r.aggregate (rows_lent (length cnv)) (rows_lent (length seq)) b)

-- "A report that the whole mount accepts gives the same tables, counts and answer in pieces": so does its mount value with its account
pub record AcceptedAlike (whole : Mounting) (begin : Beginning) (f : Fed) (e : Ended) (cnvs seqs : ℕ) : Type 0 where
  pub begins : begin.answer ≡ Ok tt
  pub passes : f.answer ≡ Ok tt
  pub ends : e.answer ≡ Ok (cnvs, seqs)
  pub mount : e.mount ≡ whole.mount
  pub cnv : f.cnv ≡ whole.cnv
  pub seq : f.seq ≡ whole.seq

-- "one that it refuses is refused in pieces too": where begin refuses, it refuses alike, and else there is a fault, so that the end doesn't mount
pub record RefusedToo (x : Refusal) (begin : Beginning) (fault : Verdict) (e : Ended) : Type 0 where
  pub begins : (y : Refusal) → begin.answer ≡ Err y → y ≡ x
  pub faulty : begin.answer ≡ Ok tt → fault ≡ Ok tt → ⊥
  pub ends : begin.answer ≡ Ok tt → (cnvs seqs : ℕ) → e.answer ≡ Ok (cnvs, seqs) → ⊥

-- "with its first fault in byte order .., and the same rows whatever the cuts": of a mount in pieces that are b together. The last piece answers the first
-- fault; the end too, or a missing byte, and then "no mount is handed out"; without a fault it answers 0
pub record PiecesCome (unit : ℕ) (aggregate : Bool) (b cnv seq : List ℕ) (f : Fed) (e : Ended) : Type 0 where
  pub answer : f.answer ≡ first_fault unit aggregate (rows_lent (length cnv)) (rows_lent (length seq)) b
  pub cnvs : f.cnv ≡ fill cnv (finished_cnv unit aggregate (rows_lent (length cnv)) (rows_lent (length seq)) b)
  pub seqs : f.seq ≡ fill seq (finished_seq unit aggregate (rows_lent (length cnv)) (rows_lent (length seq)) b)
  pub refused : (x : Refusal) → end_fault unit aggregate (rows_lent (length cnv)) (rows_lent (length seq)) b ≡ Err x
      → (e.answer ≡ Err x) × (e.mount ≡ empty_mount)
  pub mounted : end_fault unit aggregate (rows_lent (length cnv)) (rows_lent (length seq)) b ≡ Ok tt → mount_number e.answer ≡ 0

-- decided: after a refusal every further piece, whatever tables it is lent, and the end answer the same again and change nothing
pub record StaysRefused (x : Refusal) (p : Pieces) (b cnv seq : List ℕ) : Type 0 where
  pub piece : piece_outcome p b cnv seq ≡ record { answer = Err x; pieces = p; cnv = cnv; seq = seq }
  pub ends : end_outcome p ≡ record { answer = Err x; mount = empty_mount; pieces = p }
