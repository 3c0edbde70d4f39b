-- Words from a place on, as a callee is lent them and leaves them; the part's bytes, put as eight numbers one after the other; and all words of a mount
-- in pieces, put one field after the other.
-- Assumes nothing.
use Prim.Native.Nat.{ℕ, zero, suc, ◌+◌, ◌-◌, ◌*◌, ◌≤◌}
use native.Mathlib.Omega.{arith}
use mathlib.Core.Path.{◌≡◌, ◌∙◌, ap, sym, refl}
use mathlib.Core.List.{List, [], ◌++◌, append-nil, append_assoc}
use lib.ListN.{length, set, take, drop, replicate, length-drop, drop_of_length-le}
use lib.Seq.{sets, sets-eq, take_all, drop-drop, length-sets}
use Rattle.wire.specs.Le.{le, little}
use Rattle.receiving.specs.declared.Received.{Received}
use Rattle.answer_words.specs.Answers.{written}
use Rattle.answer_words.proofs.Front.{put_front}
use Rattle.pieces.specs.declared.Pieces.{Pieces}
use Rattle.mount_words.specs.Words.{mount_words, account_words, word}
use Rattle.pieces_words.specs.Words.{pieces_length, account_at, check_at, check_words, taken_at, taken_words, held_at, held_words, pieces_words, part_from}

-- FROM A PLACE ON

pub rest_all : (k : ℕ) (w : List ℕ) → take (length w - k) (drop k w) ≡ drop k w
rest_all k w = take_all (length w - k) (drop k w) (omega (arith, length-drop k w))

-- nothing follows them
rest_none : (k : ℕ) (w : List ℕ) → drop (length w - k) (drop k w) ≡ []
rest_none k w = drop_of_length-le (drop k w) {i = length w - k} (omega (arith, length-drop k w))

-- words that a callee put in front of them
pub part_written : (k : ℕ) (w values : List ℕ) {after : List ℕ} → k + length values ≤ length w → after ≡ written (take (length w - k) (drop k w)) values
    → take k w ++ (after ++ drop (length w - k) (drop k w)) ≡ sets w k values
unfolding written
part_written k w values {after} fits e =
    let put : after ≡ values ++ drop (length values) (drop k w) = e ∙ ap (λ (l : List ℕ). values ++ drop (length values) l) (rest_all k w) in
    ap (λ (l : List ℕ). take k w ++ (after ++ l)) (rest_none k w)
    ∙ ap (λ (l : List ℕ). take k w ++ l) (append-nil after ∙ put ∙ ap (λ (l : List ℕ). values ++ l) (drop-drop (length values) k w))
    ∙ sym (append_assoc (take k w) values (drop (k + length values) w))
    ∙ sym (sets-eq values w k fits)

-- THE PART'S BYTES, put as numbers one after the other, and taken from them

-- as far as word k of the eight
abbrev pub part_of : List ℕ → ℕ → List ℕ
part_of w zero = replicate 64 0
part_of w (suc k) = sets (part_of w k) (8 * k) (little 8 (word w (31 + k)))

pub part_whole : (w : List ℕ) → part_of w 8 ≡ part_from w
unfolding part_from little
part_whole w = refl

abbrev pub held_of : List ℕ → Received → ℕ → List ℕ
held_of w x zero = set w held_at x.held
held_of w x (suc k) = set (held_of w x k) (31 + k) (le 8 x.part (8 * k))

-- ALL WORDS

pub pieces_put : (w : List ℕ) (p : Pieces) {l₁ account l₃ l₄ l₅ : List ℕ} → pieces_length ≤ length w → l₁ ≡ written w (mount_words p.mount)
    → account ≡ written (take (length l₁ - account_at) (drop account_at l₁)) (account_words p.mount.account)
    → l₃ ≡ sets (take account_at l₁ ++ (account ++ drop (length l₁ - account_at) (drop account_at l₁))) check_at (check_words p.aggregate p.received.intake.check)
    → l₄ ≡ sets l₃ taken_at (taken_words p.received.intake) → l₅ ≡ sets l₄ held_at (held_words p.received) → l₅ ≡ written w (pieces_words p)
unfolding mount_words account_words pieces_words
pieces_put w p {l₁} {l₅ = l₅} long m a c t h =
    let mount : l₁ ≡ sets w 0 (mount_words p.mount) = m ∙ sym (put_front w (mount_words p.mount) (omega arith)) in
    let wide : length l₁ ≡ length w = ap length mount ∙ length-sets w 0 (mount_words p.mount) in
    let both = part_written account_at l₁ (account_words p.mount.account) (omega arith) a in
    let all : l₅ ≡ sets w 0 (pieces_words p) = rw (h, t, c, both, mount) in
    all ∙ put_front w (pieces_words p) (omega arith)
