-- A permitted append is issued as its one command, and no other write to a sequential file is.
-- Assumes nothing.
use Rattle.std.specs.Prelude.{Ok}
use Prim.Native.Nat.{ℕ, ◌%◌}
use native.Mathlib.Omega.{arith}
use mathlib.Core.Bool.{Bool, true, false, not, ◌&&◌, ◌||◌, false≢true}
use mathlib.Core.Path.{◌≡◌, refl, sym, ap, ◌∙◌}
use lib.Dec.{eqb}
use borrow.Author.Tests.{eqb-true, eqb-false, eq-eqb, ne_eqb, not-false}
use Rattle.types.specs.declared.Row.{Row}
use Rattle.types.specs.declared.Call.{Call}
use Rattle.types.specs.declared.FileKind.TheVariants.{Sequential}
use Rattle.types.specs.declared.Access.{Access}
use Rattle.types.specs.declared.Access.TheVariants as access
use Rattle.types.specs.declared.Granted.TheVariants.{Issue}
use Rattle.types.specs.Blocks.{on_block}
use Rattle.types.proofs.Tests.{and_right, or_left, or_right}
use Rattle.checks.proofs.Laws.{reached_sound}
use Rattle.account.specs.Account.{is_open}
use Rattle.decision.specs.Decision.{unwritable, unopened, misplaced, dispatched}
use Rattle.decision.proofs.Laws.{write_issued, write-issues, dispatch_passed, dispatch_passes}
use Rattle.calls.specs.Calls.{effect_of, effect_by}
use Rattle.calls.proofs.Laws.{call_passed, call_passes}
use Rattle.engine.specs.Engine.{State, Step, step_by, step}
use Rattle.engine.specs.Append.{Permitted, append_command, write, AppendCommanded, OnlyAppends}

-- A WRITE, by what it does
write_steps : (s : State) (n o l : ℕ) → write s n o l ≡ step_by s (effect_of s.mount s.cnv s.seq Sequential n (Call.Write o l))
unfolding step effect_by
write_steps s n o l = refl

written_access : (a : Access) → unwritable a ≡ false → a ≡ access.Write
written_access access.Nothing e = cc
written_access access.Read e = cc
written_access access.Write e = refl

module _ (s : State) (n : ℕ) (r : Row) (o l : ℕ) where
  append-placed : Permitted s n r o l → misplaced Sequential s.mount.volume.block r.size o l ≡ false
  append-placed p =
      simp (
        eq-eqb (o % s.mount.volume.block) 0 (ap (λ (x : ℕ). x % s.mount.volume.block) p.appends ∙ (reached_sound s.mount s.cnv s.seq Sequential n r p.reached).blocks),
        eq-eqb (l % s.mount.volume.block) 0 p.whole,
        eq-eqb o r.size p.appends,
      )

  -- with the option it is open
  append-opened : (e : Bool) → (e ≡ true → is_open r ≡ true) → unopened e Sequential r ≡ false
  append-opened true h = rw (h refl)
  append-opened false h = refl

  append_answer : Permitted s n r o l → dispatched s.mount.readonly s.mount.volume.explicit s.mount.volume.block Sequential r (Call.Write o l) ≡ Ok (Issue (append_command r o l))
  append_answer p =
      dispatch_passes s.mount.readonly s.mount.volume.explicit s.mount.volume.block Sequential r (Call.Write o l) (rw p.writable)
      ∙ write-issues s.mount.volume.explicit s.mount.volume.block Sequential r o l (append_command r o l)
      (record { checked = record { writable = rw p.access; opened = append-opened s.mount.volume.explicit p.opened; fits = p.fits; placed = append-placed p }; some = ne_eqb l 0 (λ e. omega (arith, p.some)); command = refl })

and_false_right : (a b : Bool) → a && b ≡ false → a ≡ true → b ≡ false
and_false_right true b h e = h
and_false_right false b h e = absurd (false≢true e)

pub append-commanded : AppendCommanded
unfolding AppendCommanded
append-commanded s n r o l p =
    write_steps s n o l
    ∙ rw (call_passes s.mount s.cnv s.seq Sequential n (Call.Write o l) r (record { reached = p.reached; idle = p.idle }) refl, append_answer s n r o l p)

-- THE OTHER WAY ROUND
pub only_appends : OnlyAppends
unfolding OnlyAppends
only_appends s n o l c e =
    let block = s.mount.volume.block in
    let a = sym (ap (λ (t : Step). t.reply) (write_steps s n o l)) ∙ e in
    let (r, (w, (within, g))) = call_passed s.mount s.cnv s.seq Sequential n (Call.Write o l) c a in
    let explicit = s.mount.volume.explicit in
    let (ro, d) = dispatch_passed s.mount.readonly explicit block Sequential r (Call.Write o l) c g in
    let i = write_issued explicit block Sequential r o l c d in
    let placed : not (on_block block o && on_block block l) || not (eqb o r.size) ≡ false = i.checked.placed in
    let aligned : on_block block o && on_block block l ≡ true = not-false _ (or_left _ _ placed) in (
      r,
      (
        record {
          reached = w.reached;
          idle = w.idle;
          writable = by s.mount.readonly ro;
          access = written_access r.access i.checked.writable;
          opened = λ e. not-false (is_open r) (and_false_right explicit (not (is_open r)) i.checked.opened e);
          fits = i.checked.fits;
          appends = eqb-true o r.size (not-false _ (or_right (not (on_block block o && on_block block l)) _ placed));
          whole = eqb-true (l % block) 0 (and_right (on_block block o) _ aligned);
          some = omega (arith, eqb-false l 0 i.some);
        },
        i.command,
      ),
    )
  where
    by : (t : Bool) → t && true ≡ false → t ≡ false
    by true e = e
    by false e = refl
