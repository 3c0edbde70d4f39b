-- What the functions that put a super block leave, one part after the other, is the block that is defined.
-- Assumes nothing.
use Prim.Native.Nat.{ℕ, ◌+◌, ◌-◌, ◌≤◌}
use native.Mathlib.Omega.{arith}
use mathlib.Core.Path.{◌≡◌, refl, ap, ◌∙◌}
use mathlib.Core.List.{List, ◌++◌, append_assoc}
use lib.ListN.{length, drop, replicate, length-append, length-replicate}
use lib.Seq.{sets, length-sets}
use Rattle.std.proofs.lemmas.List.{drop-replicate}
use Rattle.text.specs.Facts.{Put}
use Rattle.text.proofs.Stores.{then}
use Rattle.wire.specs.Le.{little}
use Rattle.wire.proofs.Laws.{length-little}
use Rattle.wire.proofs.Stores.{put_all}
use Rattle.crc32.specs.Crc.{superblock_crc}
use Rattle.superblock.specs.SuperBlock.{super_length, magic, tail_place, label_length, uuid_length, encode_super, super_bytes}
use Rattle.format.specs.Format.{filled}

pub filled-length : (label : List ℕ) → length label ≤ label_length → length (filled label) ≡ label_length
filled-length label h = omega (arith, length-append label (replicate (label_length - length label) 0), length-replicate {A = ℕ} (label_length - length label) 0)

-- a label in front of a field of zeros
pub field_filled : (label : List ℕ) → label ++ drop (length label) (replicate label_length 0) ≡ filled label
field_filled label = ap (λ (l : List ℕ). label ++ l) (drop-replicate (length label) label_length 0)

-- THE PARTS, each put where the one before it ended

module _ (label uuid : List ℕ) where
  abbrev names : List ℕ
  names = little 4 magic ++ (little 4 0 ++ (label ++ uuid))

  pub names_put : length label ≡ label_length → (a b c d e : List ℕ) → b ≡ sets a 0 (little 4 magic) → c ≡ sets b 4 (little 4 0) → d ≡ sets c 8 label
      → e ≡ sets d 72 uuid → e ≡ sets a 0 names
  names_put whole a b c d e p q r s =
      let first : Put a b 0 4 (little 4 magic) = record { bytes = p; place = omega (arith, length-little 4 magic) } in
      let sum : Put b c 4 8 (little 4 0) = record { bytes = q; place = omega (arith, length-little 4 0) } in
      let name : Put c d 8 72 label = record { bytes = r; place = omega arith } in
      let last : Put d e 72 (72 + length uuid) uuid = record { bytes = s; place = refl } in
      (then first (then sum (then name last))).bytes

  names_length : length label ≡ label_length → length uuid ≡ uuid_length → length names ≡ 88
  names_length whole u =
      omega (arith, length-append (little 4 magic) (little 4 0 ++ (label ++ uuid)), length-append (little 4 0) (label ++ uuid), length-append label uuid, length-little 4 magic, length-little 4 0, whole, u)

  names_apart : (rest : List ℕ) → names ++ rest ≡ little 4 magic ++ (little 4 0 ++ (label ++ (uuid ++ rest)))
  names_apart rest =
      append_assoc (little 4 magic) (little 4 0 ++ (label ++ uuid)) rest
      ∙ ap (λ (l : List ℕ). little 4 magic ++ l) (append_assoc (little 4 0) (label ++ uuid) rest ∙ ap (λ (l : List ℕ). little 4 0 ++ l) (append_assoc label uuid rest))

-- a label that leaves room in its field, and zeros behind it
pub filled_names_put : (label uuid : List ℕ) → length label ≤ label_length → (a b c d e f : List ℕ) → b ≡ sets a 0 (little 4 magic)
    → c ≡ sets b 4 (little 4 0) → d ≡ sets c 8 label → e ≡ sets d (8 + length label) (replicate (label_length - length label) 0) → f ≡ sets e 72 uuid
    → f ≡ sets a 0 (names (filled label) uuid)
filled_names_put label uuid short a b c d e f p q r s t =
    let end : ℕ = 8 + length label in
    let rest : List ℕ = replicate (label_length - length label) 0 in
    let name : Put c d 8 end label = record { bytes = r; place = refl } in
    let zeros : Put d e end 72 rest = record { bytes = s; place = omega (arith, length-replicate {A = ℕ} (label_length - length label) 0) } in
    names_put (filled label) uuid (filled-length label short) a b c e f p q (then name zeros).bytes t

module _ (features owner group mode : ℕ) where
  abbrev numbers : List ℕ
  numbers = little 8 features ++ (little 4 owner ++ (little 4 group ++ little 4 mode))

  pub numbers_put : (a b c d e : List ℕ) → b ≡ sets a 88 (little 8 features) → c ≡ sets b 96 (little 4 owner) → d ≡ sets c 100 (little 4 group)
      → e ≡ sets d 104 (little 4 mode) → e ≡ sets a 88 numbers
  numbers_put a b c d e p q r s =
      let first : Put a b 88 96 (little 8 features) = record { bytes = p; place = omega (arith, length-little 8 features) } in
      let second : Put b c 96 100 (little 4 owner) = record { bytes = q; place = omega (arith, length-little 4 owner) } in
      let third : Put c d 100 104 (little 4 group) = record { bytes = r; place = omega (arith, length-little 4 group) } in
      let last : Put d e 104 tail_place (little 4 mode) = record { bytes = s; place = omega (arith, length-little 4 mode) } in
      (then first (then second (then third last))).bytes

  numbers_length : length numbers ≡ 20
  numbers_length =
      omega (
        arith,
        length-append (little 8 features) (little 4 owner ++ (little 4 group ++ little 4 mode)),
        length-append (little 4 owner) (little 4 group ++ little 4 mode),
        length-append (little 4 group) (little 4 mode),
        length-little 8 features,
        length-little 4 owner,
        length-little 4 group,
        length-little 4 mode,
      )

  numbers_apart : (rest : List ℕ) → numbers ++ rest ≡ little 8 features ++ (little 4 owner ++ (little 4 group ++ (little 4 mode ++ rest)))
  numbers_apart rest =
      append_assoc (little 8 features) (little 4 owner ++ (little 4 group ++ little 4 mode)) rest
      ∙ ap (λ (l : List ℕ). little 8 features ++ l) (append_assoc (little 4 owner) (little 4 group ++ little 4 mode) rest ∙ ap (λ (l : List ℕ). little 4 owner ++ l) (append_assoc (little 4 group) (little 4 mode) rest))

-- ALL OF THEM

module _ (label uuid : List ℕ) (features owner group mode : ℕ) (short : length label ≡ label_length) (sixteen : length uuid ≡ uuid_length) where
  abbrev front : List ℕ
  front = names label uuid

  abbrev back : List ℕ
  back = numbers features owner group mode

  -- with a checksum of zero, and zeros to the end
  laid : (a b c d : List ℕ) → length a ≡ super_length → b ≡ sets a 0 front → c ≡ sets b 88 back → d ≡ sets c tail_place (replicate (length c - tail_place) 0)
      → d ≡ encode_super 0 label uuid features owner group mode
  unfolding encode_super
  laid a b c d size p q r =
      let room : length c ≡ super_length = ap length q ∙ length-sets b 88 back ∙ ap length p ∙ length-sets a 0 front ∙ size in
      let zeros : List ℕ = replicate (length c - tail_place) 0 in
      let first : Put a b 0 88 front = record { bytes = p; place = omega (arith, names_length label uuid short sixteen) } in
      let second : Put b c 88 tail_place back = record { bytes = q; place = omega (arith, numbers_length features owner group mode) } in
      let last : Put c d tail_place (tail_place + length zeros) zeros = record { bytes = r; place = refl } in
      let long : length (front ++ (back ++ zeros)) ≡ length a =
      omega (arith, length-append front (back ++ zeros), length-append back zeros, names_length label uuid short sixteen, numbers_length features owner group mode, length-replicate {A = ℕ} (length c - tail_place) 0) in
      (then first (then second last)).bytes
      ∙ put_all a (front ++ (back ++ zeros)) long
      ∙ names_apart label uuid (back ++ zeros)
      ∙ ap (λ (l : List ℕ). little 4 magic ++ (little 4 0 ++ (label ++ (uuid ++ l)))) (numbers_apart features owner group mode zeros)
      ∙ ap (λ (n : ℕ). little 4 magic ++ (little 4 0 ++ (label ++ (uuid ++ (little 8 features ++ (little 4 owner ++ (little 4 group ++ (little 4 mode ++ replicate (n - tail_place) 0)))))))) room

  -- the checksum goes into its field, and nothing else changes
  sealed : (c d : ℕ) → sets (encode_super c label uuid features owner group mode) 4 (little 4 d) ≡ encode_super d label uuid features owner group mode
  unfolding encode_super little
  sealed c d = refl

  pub super_put : (a b c d e : List ℕ) → length a ≡ super_length → b ≡ sets a 0 front → c ≡ sets b 88 back → d ≡ sets c tail_place (replicate (length c - tail_place) 0)
      → e ≡ sets d 4 (little 4 (superblock_crc d)) → e ≡ super_bytes label uuid features owner group mode
  unfolding super_bytes
  super_put a b c d e size p q r s =
      let whole = laid a b c d size p q r in
      s ∙ ap (λ (l : List ℕ). sets l 4 (little 4 (superblock_crc l))) whole ∙ sealed 0 _

-- the same of a label that leaves room
pub filled_super_put : (label uuid : List ℕ) (features owner group mode : ℕ) → length label ≤ label_length → length uuid ≡ uuid_length → (a b c d e : List ℕ)
    → length a ≡ super_length → b ≡ sets a 0 (names (filled label) uuid) → c ≡ sets b 88 (numbers features owner group mode)
    → d ≡ sets c tail_place (replicate (length c - tail_place) 0) → e ≡ sets d 4 (little 4 (superblock_crc d))
    → e ≡ super_bytes (filled label) uuid features owner group mode
filled_super_put label uuid features owner group mode short sixteen =
    super_put (filled label) uuid features owner group mode (filled-length label short) sixteen
