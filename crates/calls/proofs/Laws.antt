-- What a call does past the shared checks; that one which issues a command reached its file, with nothing outstanding there, and its row's
-- answer is the command; that no call changes the mount but for its account, which stays true; and that the row which it stores is its own file's.
-- Assumes nothing.
use Rattle.std.specs.Prelude.{Ok, Err, Some, None}
use Prim.Native.Nat.{ℕ}
use native.Mathlib.Omega.{arith}
use mathlib.Core.Path.{◌≡◌, refl, sym, ap, ◌∙◌}
use mathlib.Core.Bool.{Bool, true, false, cond, false≢true}
use mathlib.Core.List.{List}
use lib.ListN.{length}
use Rattle.types.specs.declared.Mount.{Mount}
use Rattle.types.specs.declared.Row.{Row}
use Rattle.types.specs.declared.Call.{Call}
use Rattle.types.specs.declared.Command.{Command}
use Rattle.types.specs.declared.FileKind.{FileKind}
use Rattle.types.specs.declared.Effect.{Effect}
use Rattle.types.specs.declared.Outstanding.{Outstanding}
use Rattle.types.specs.declared.Outstanding.TheVariants.{Idle, Busy}
use Rattle.types.specs.declared.FileKind.TheVariants.{Conventional, Sequential}
use Rattle.types.specs.Answers.{Answer}
use Rattle.types.specs.declared.Granted.TheVariants.{Done, Issue}
use Rattle.types.specs.declared.Refusal.{Refusal}
use Rattle.types.specs.Effects.{refusing}
use Rattle.types.specs.Predicates.{is_busy}
use Rattle.types.proofs.Tests.{or_left, or_right}
use Rattle.types.proofs.PredicateLaws.{idle_is}
use Rattle.types.proofs.VerdictLaws.{check_passed, check_passes, after_passed, after-passes}
use Rattle.table.specs.Facts.{StoreFits}
use Rattle.table.specs.Rows.{stored, with_outstanding}
use Rattle.account.specs.Account.{accounted}
use Rattle.account.specs.Counts.{TrueCounts}
use Rattle.account.specs.Facts.{Room}
use Rattle.account.proofs.Laws.{Fixes, accounted_fixes, accounted_mark, Small, accounted_small, active_held, held_stays, uncounted_stays}
use Rattle.checks.specs.Checks.{Checked}
use Rattle.checks.specs.Checks.{file_of}
use Rattle.checks.specs.Facts.{Reached}
use Rattle.checks.proofs.Laws.{counts_room, file_reached, reached_file, reached_lent}
use Rattle.decision.specs.Decision.{dispatched, opens_file, counts, called, limits_of}
use Rattle.decision.specs.Facts.{Settles}
use Rattle.decision.proofs.Laws.{settled-after, dispatch_settles, limited_issued, limited-passes, limited_settles}
use Rattle.calls.specs.Calls.{on_row, mount_after, store_at_once, settled, on_file, effect_of}
use Rattle.calls.specs.Facts.{Admitted}
use Rattle.calls.proofs.Fits.{settled_fits}

-- A CALL THAT COUNTS NOTHING leaves the row's opens as they were.
pub uncounting : (k : FileKind) (x : Call) (r : Row) → counts k x ≡ false → called k x r ≡ r
uncounting k x r e = rw (or_left (opens_file k x) _ e, or_right (opens_file k x) _ e)

-- ONE OPEN MORE never wraps.
pub row_settles : (m : Mount) (k : FileKind) (r : Row) (x : Call) → Settles k x r (on_row m k r x)
row_settles m k r x =
    settled-after k x r _ _ (λ p. limited_settles k x r _ _ (dispatch_settles m.readonly m.volume.explicit m.volume.block k r x))

-- what a call leaves and stores, by whether it counts
module _ (k : FileKind) (r : Row) (x : Call) where
  pub after-counted : (m : Mount) → counts k x ≡ true → accounted m k r (called k x r) ≡ mount_after m k r x
  after-counted m e = ap (λ (t : Bool). cond t (accounted m k r (called k x r)) m) (sym e)

  pub after_uncounted : (m : Mount) → counts k x ≡ false → m ≡ mount_after m k r x
  after_uncounted m e = ap (λ (t : Bool). cond t (accounted m k r (called k x r)) m) (sym e)

  pub store_counted : (i : ℕ) → counts k x ≡ true → Some (k, i, called k x r) ≡ store_at_once k i r x
  store_counted i e = ap (λ (t : Bool). cond t (Some (k, i, called k x r)) None) (sym e)

  pub store_uncounted : (i : ℕ) → counts k x ≡ false → None ≡ store_at_once k i r x
  store_uncounted i e = ap (λ (t : Bool). cond t (Some (k, i, called k x r)) None) (sym e)

module _ (m : Mount) (cnv seq : List ℕ) (k : FileKind) (i : ℕ) (x : Call) where
  -- past 10 (counts), 1 and 10 (row)
  pub call_reached : (r : Row) → Reached m cnv seq k i r → effect_of m cnv seq k i x ≡ settled m k i r x (on_row m k r x)
  call_reached r w = rw (reached_file m cnv seq k i r w)

  -- a call either reaches its file's row, or is refused by the shared checks
  pub call_cases : (P : Effect → Type 0) → ((r : Row) → Reached m cnv seq k i r → P (settled m k i r x (on_row m k r x)))
      → ((y : Refusal) → file_of m cnv seq k i ≡ Err y → P (refusing m y)) → P (effect_of m cnv seq k i x)
  call_cases P on off = by (file_of m cnv seq k i) refl
    where
      by : (f : Checked) → file_of m cnv seq k i ≡ f → P (on_file m k i f x)
      by (Ok r) e = on r (file_reached m cnv seq k i r e)
      by (Err y) e = off y e

  -- a call's reply is its answer
  pub settled_answer : (r : Row) (a : Answer) → (settled m k i r x a).outcome.answer ≡ a
  settled_answer r (Err y) = refl
  settled_answer r (Ok (Done count)) = refl
  settled_answer r (Ok (Issue c)) = refl

  -- 2 is passed, and 11 and 12 are, and then it is as the row and the read-only mark say
  pub row_passed : (r : Row) (c : Command) → on_row m k r x ≡ Ok (Issue c)
      → (r.outstanding ≡ Idle) × ((limits_of m.volume.explicit m.account k r x ≡ Ok tt) × (dispatched m.readonly m.volume.explicit m.volume.block k r x ≡ Ok (Issue c)))
  row_passed r c e = let (v, g) = after_passed _ e in let (b, p) = check_passed _ v in (idle_is r.outstanding b, limited_issued g)

  pub call_passed : (c : Command) → (effect_of m cnv seq k i x).outcome.answer ≡ Ok (Issue c)
      → (r : Row) × (Admitted m cnv seq k i r × ((limits_of m.volume.explicit m.account k r x ≡ Ok tt) × (dispatched m.readonly m.volume.explicit m.volume.block k r x ≡ Ok (Issue c))))
  call_passed c e = by (file_of m cnv seq k i) refl e
    where
      by : (f : Checked) → file_of m cnv seq k i ≡ f → (on_file m k i f x).outcome.answer ≡ Ok (Issue c)
          → (r : Row) × (Admitted m cnv seq k i r × ((limits_of m.volume.explicit m.account k r x ≡ Ok tt) × (dispatched m.readonly m.volume.explicit m.volume.block k r x ≡ Ok (Issue c))))
      by (Ok r) f e =
          let (idle, g) = row_passed r c (sym (settled_answer r (on_row m k r x)) ∙ e) in
          (r, (record { reached = file_reached m cnv seq k i r f; idle = idle }, g))
      by (Err y) f e = let z : ◌≡◌ {A = ℕ} 0 1 = cc in absurd (omega arith)

  -- past the shared checks, 2, 11 and 12, a call answers as its row says
  pub call_passes : (r : Row) → Admitted m cnv seq k i r → limits_of m.volume.explicit m.account k r x ≡ Ok tt
      → effect_of m cnv seq k i x ≡ settled m k i r x (dispatched m.readonly m.volume.explicit m.volume.block k r x)
  call_passes r w l =
      call_reached r w.reached ∙ ap (settled m k i r x) (after-passes (check_passes _ (ap is_busy w.idle) refl) ∙ limited-passes _ _ l)

  -- THE MOUNT stays but for its account, whatever the answer is; and where nothing is counted, the account too.
  abbrev pub Keeps : Mount → Type 0
  Keeps n = Fixes m n × (n.readonly ≡ m.readonly)

  after_keeps : (r : Row) → Keeps (mount_after m k r x)
  after_keeps r = by (counts k x)
    where
      by : (t : Bool) → Keeps (cond t (accounted m k r (called k x r)) m)
      by true = (accounted_fixes m k r (called k x r), accounted_mark m k r (called k x r))
      by false = ((refl, (refl, refl)), refl)

  pub settled_keeps : (r : Row) (a : Answer) → Keeps (settled m k i r x a).outcome.mount
  settled_keeps r (Err y) = ((refl, (refl, refl)), refl)
  settled_keeps r (Ok (Done count)) = after_keeps r
  settled_keeps r (Ok (Issue c)) = after_keeps r

  pub effect_keeps : Keeps (effect_of m cnv seq k i x).outcome.mount
  effect_keeps = call_cases (λ d. Keeps d.outcome.mount) (λ r w. settled_keeps r (on_row m k r x)) (λ y e. ((refl, (refl, refl)), refl))

  -- its counts stay numbers of 32 bits
  after_small : (r : Row) → Room m.account → Small m.account → Small (mount_after m k r x).account
  after_small r w h = by (counts k x)
    where
      by : (t : Bool) → let n : Mount = cond t (accounted m k r (called k x r)) m in Small n.account
      by true = accounted_small m k r (called k x r) w
      by false = h

  settled_small : (r : Row) (a : Answer) → Room m.account → Small m.account → Small (settled m k i r x a).outcome.mount.account
  settled_small r (Err y) w h = h
  settled_small r (Ok (Done count)) w h = after_small r w h
  settled_small r (Ok (Issue c)) w h = after_small r w h

  pub effect_small : Small m.account → Small (effect_of m cnv seq k i x).outcome.mount.account
  effect_small h =
      call_cases (λ d. Small d.outcome.mount.account) (λ r w. settled_small r (on_row m k r x) (counts_room m (length cnv) (length seq) w.counts) h) (λ y e. h)

  settled_uncounted : (r : Row) (a : Answer) → counts k x ≡ false → (settled m k i r x a).outcome.mount ≡ m
  settled_uncounted r (Err y) e = refl
  settled_uncounted r (Ok (Done count)) e = rw e
  settled_uncounted r (Ok (Issue c)) e = rw e

  pub effect_uncounted : counts k x ≡ false → (effect_of m cnv seq k i x).outcome.mount ≡ m
  effect_uncounted e = call_cases (λ d. d.outcome.mount ≡ m) (λ r w. settled_uncounted r (on_row m k r x) e) (λ y f. refl)

  -- THE ROW that is stored is its file's, which is lent.
  pub effect_fits : StoreFits cnv seq (effect_of m cnv seq k i x).store
  effect_fits = call_cases (λ d. StoreFits cnv seq d.store) (λ r w. settled_fits m cnv seq k i x r (on_row m k r x) w) (λ y e. tt)

  -- THE ACCOUNT stays true.
  abbrev Stays : Effect → Type 0
  Stays d = TrueCounts m seq → TrueCounts d.outcome.mount (stored Sequential d.store seq)

  -- a row that the call leaves, with something outstanding or not
  counted_stays : (j : FileKind) (r r' : Row) (t : Bool) → Reached m cnv seq j i r → (t ≡ false → r' ≡ r) → (o : Outstanding)
      → TrueCounts m seq → TrueCounts (cond t (accounted m j r r') m) (stored Sequential (Some (j, i, with_outstanding r' o)) seq)
  counted_stays Conventional r r' true w e o h = h
  counted_stays Conventional r r' false w e o h = h
  counted_stays Sequential r r' true w e o h = held_stays m seq h i r w.number w.row r' o (reached_lent m cnv seq Sequential i r w)
  counted_stays Sequential r r' false w e o h =
      rw (e refl) (uncounted_stays m seq h i r w.number w.row (with_outstanding r o) refl (active_held m.volume.explicit r o) (reached_lent m cnv seq Sequential i r w))

  settled_stays : (r : Row) (a : Answer) → Reached m cnv seq k i r → Stays (settled m k i r x a)
  settled_stays r (Err y) w h = h
  settled_stays r (Ok (Done count)) w h = by (counts k x) refl
    where
      by : (t : Bool) → counts k x ≡ t → TrueCounts (cond t (accounted m k r (called k x r)) m) (stored Sequential (cond t (Some (k, i, called k x r)) None) seq)
      by true e = counted_stays k r (called k x r) true w (λ f. absurd (false≢true (sym f))) r.outstanding h
      by false e = h
  settled_stays r (Ok (Issue c)) w h = counted_stays k r (called k x r) (counts k x) w (uncounting k x r) (Busy c) h

  pub effect_stays : Stays (effect_of m cnv seq k i x)
  effect_stays = call_cases Stays (λ r w. settled_stays r (on_row m k r x) w) (λ y e h. h)
