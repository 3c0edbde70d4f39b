-- Opens of a file that is open: each is answered at once, until the file has 65,535, and the next is refused.
-- Assumes nothing.
use Rattle.std.specs.Prelude.{Ok, Err}
use Prim.Native.Nat.{ℕ, zero, suc, ◌+◌, ◌≤◌, ◌<◌}
use native.Mathlib.Omega.{arith}
use mathlib.Core.Path.{◌≡◌, refl, sym, ap, ◌∙◌}
use mathlib.Core.Bool.{Bool, true, false, not, ◌&&◌}
use mathlib.Core.List.{List, ◌∷◌}
use borrow.Author.Tests.{le-leb, lt-leb, lt-ltb}
use Rattle.types.specs.declared.Mount.{Mount}
use Rattle.types.specs.declared.Row.{Row}
use Rattle.types.specs.declared.Call.{Call}
use Rattle.types.specs.declared.FileKind.TheVariants.{Sequential}
use Rattle.types.specs.declared.Refusal.TheVariants.{TooManyOpens}
use Rattle.types.specs.Answers.{Answer}
use Rattle.types.specs.declared.Granted.TheVariants.{Done}
use Rattle.types.specs.Codes.{kind_code}
use Rattle.types.specs.Verdicts.{refuse, answer_after}
use Rattle.types.proofs.VerdictLaws.{check_passes, after-passes}
use Rattle.table.specs.Rows.{set_row, with_opens}
use Rattle.table.proofs.Laws.{row_at-same, set_row-length}
use Rattle.account.specs.Account.{is_open, is_active, limit_check, counted, accounted}
use Rattle.account.proofs.Laws.{uncounted}
use Rattle.checks.specs.Facts.{SoundRow}
use Rattle.checks.proofs.Laws.{reached_lent, reached_sound, row_sound}
use Rattle.decision.specs.Decision.{most_opens, at_once, opening, open_checks, open_row, limits_of}
use Rattle.decision.proofs.Laws.{dispatch_passes}
use Rattle.calls.specs.Calls.{effect_of, effect_by, settled}
use Rattle.calls.specs.Facts.{Admitted}
use Rattle.calls.proofs.Laws.{call_passes}
use Rattle.engine.specs.Engine.{State, Input, Step, step_by, step, run}
use Rattle.engine.specs.Opens.{OpenFile, FurtherOpens, LastOpen}

abbrev open_of : ℕ → Input
open_of n = Input.call (kind_code Sequential) n Call.Open

open_steps : (s : State) (n : ℕ) → step s (open_of n) ≡ step_by s (effect_of s.mount s.cnv s.seq Sequential n Call.Open)
unfolding step effect_by
open_steps s n = refl

module _ (s : State) (n : ℕ) (r : Row) (w : OpenFile s n r) where
  explicit : Bool
  explicit = s.mount.volume.explicit

  is_open_lem : is_open r ≡ true
  is_open_lem = lt-ltb 0 r.opens w.opened

  -- with other opens, but still some, it is as active as before
  still_open : (m : ℕ) → 0 < m → is_open (with_opens r m) ≡ true
  still_open m h = lt-ltb 0 m h

  still_active : (e : Bool) (m : ℕ) → 0 < m → is_active e r ≡ is_active e (with_opens r m)
  unfolding is_active
  still_active e m h = rw (is_open_lem, still_open m h)

  -- neither 11 nor 12: an open that is not the first raises no count
  no_limit : limits_of s.mount.volume.explicit s.mount.account Sequential r Call.Open ≡ Ok tt
  unfolding limit_check
  no_limit =
      let e = s.mount.volume.explicit in
      check_passes _ (by e _ _ is_open_lem) (check_passes _ (by₂ e (is_active e r) _ _ (still_active e (r.opens + 1) (omega arith))) refl)
    where
      by : {t : Bool} (e u v : Bool) → t ≡ true → e && (not t && u && v) ≡ false
      by true u v h = rw h
      by false u v h = refl

      by₂ : (e t u v : Bool) → t ≡ u → e && (not t && u && v) ≡ false
      by₂ true true u v h = refl
      by₂ true false u v h = rw (← h)
      by₂ false t u v h = refl

  reaches : Admitted s.mount s.cnv s.seq Sequential n r
  reaches = record { reached = w.reached; idle = w.idle }

  writes : s.mount.readonly && true ≡ false
  writes = rw w.writable

  -- the open itself
  at_once_lem : (e : Bool) → opening e r ≡ Ok (Done 0)
  unfolding at_once
  at_once_lem true = rw is_open_lem
  at_once_lem false = refl

  opened_row : (e : Bool) → r.opens < most_opens → open_row e Sequential r ≡ Ok (Done 0)
  unfolding open_row open_checks
  opened_row e h = after-passes (check_passes _ (rw w.access) (check_passes _ (lt-leb most_opens r.opens h) refl)) ∙ at_once_lem e

  too_many : (e : Bool) → most_opens ≤ r.opens → open_row e Sequential r ≡ Err TooManyOpens
  unfolding open_row open_checks answer_after refuse
  too_many e h = rw (w.access, le-leb most_opens r.opens h)

  answered : (a : Answer) → open_row explicit Sequential r ≡ a → step s (open_of n) ≡ step_by s (settled s.mount Sequential n r Call.Open a)
  unfolding explicit
  answered a h =
      open_steps s n
      ∙ ap (step_by s)
      (call_passes s.mount s.cnv s.seq Sequential n Call.Open r reaches no_limit
      ∙ ap (settled s.mount Sequential n r Call.Open) (dispatch_passes s.mount.readonly s.mount.volume.explicit s.mount.volume.block Sequential r Call.Open writes ∙ h))

  abbrev row : Row
  row = with_opens r (r.opens + 1)

  abbrev after : State
  after = record { mount = s.mount; cnv = s.cnv; seq = set_row s.seq n row }

  -- one more is answered at once, the account stays, and the file has it
  mount_stays : accounted s.mount Sequential r row ≡ s.mount
  mount_stays = uncounted s.mount Sequential r row (is_open_lem ∙ sym (still_open (r.opens + 1) (omega arith))) (still_active s.mount.volume.explicit (r.opens + 1) (omega arith))

  one_more : r.opens < most_opens → step s (open_of n) ≡ record { reply = Ok (Done 0); state = after }
  unfolding explicit
  one_more h =
      answered (Ok (Done 0)) (opened_row s.mount.volume.explicit h)
      ∙ ap with_mount mount_stays
    where
      with_mount : Mount → Step
      with_mount m = record { reply = Ok (Done 0); state = record { mount = m; cnv = s.cnv; seq = set_row s.seq n row } }

  sound_after : SoundRow s.mount.volume.block Sequential row
  sound_after =
      let v = reached_sound s.mount s.cnv s.seq Sequential n r w.reached in
      record {
        started = v.started;
        aligned = v.aligned;
        roomy = v.roomy;
        whole = v.whole;
        ends = v.ends;
        blocks = v.blocks;
        within = v.within;
        offline = v.offline;
        none = v.none;
        readonly = v.readonly;
        full = v.full;
        openable = λ e. w.access;
      }

  counted-after : counted s.mount Sequential row ≡ true
  unfolding counted
  counted-after =
      rw (still_open (r.opens + 1) (omega arith), ← still_active s.mount.volume.explicit (r.opens + 1) (omega arith))
      (rw is_open_lem at w.reached.counted)

  file_after : OpenFile after n row
  file_after =
      let lent = reached_lent s.mount s.cnv s.seq Sequential n r w.reached in
      record {
        reached = record {
          counts = rw (set_row-length s.seq n row) w.reached.counts;
          number = w.reached.number;
          row = row_at-same s.seq n row lent;
          sound = row_sound s.mount.volume.block Sequential row sound_after;
          counted = counted-after;
        };
        idle = w.idle;
        writable = w.writable;
        access = w.access;
        opened = omega arith;
      }

-- MANY
pub further_opens : FurtherOpens
unfolding FurtherOpens run
further_opens s n r w zero h = let e : r.opens + 0 ≡ r.opens = omega arith in record { replies = refl; file = rw e w }
further_opens s n r w (suc m) h =
    let e = one_more s n r w (omega arith) in
    let rest = further_opens (after s n r w) n (row s n r w) (file_after s n r w) m (omega arith) in
    let q : r.opens + 1 + m ≡ r.opens + suc m = omega arith in
    rw e (record { replies = ap (λ (l : List Answer). Ok (Done 0) ∷ l) rest.replies; file = rw q at rest.file })

pub last_open : LastOpen
unfolding LastOpen run
last_open s n r w zero h =
    let e = answered s n r w (Err TooManyOpens) (too_many s n r w _ (omega arith)) in
    rw e
last_open s n r w (suc m) h =
    let e = one_more s n r w (omega arith) in
    rw e (ap (λ (l : List Answer). Ok (Done 0) ∷ l) (last_open (after s n r w) n (row s n r w) (file_after s n r w) m (omega arith)))
