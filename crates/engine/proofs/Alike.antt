-- What an input answers and stores hangs on the account by 10, 11 and 12 alone: at two states that differ in it, and else at most in rows of other files,
-- an input that answers none of these at either does the same.
-- Assumes nothing.
use Rattle.std.specs.Prelude.{Ok, Err, Some, None}
use Prim.Native.Nat.{ℕ}
use mathlib.Core.Path.{◌≡◌, refl, sym, ◌∙◌}
use mathlib.Core.Bool.{Bool, true, false, cond, ◌&&◌}
use mathlib.Core.List.{List}
use lib.ListN.{length}
use Rattle.types.specs.declared.Account.{Account}
use Rattle.types.specs.declared.Volume.{Volume}
use Rattle.types.specs.declared.Mount.{Mount}
use Rattle.types.specs.declared.Row.{Row}
use Rattle.types.specs.declared.Held.{Held}
use Rattle.types.specs.declared.Call.{Call}
use Rattle.types.specs.declared.FileKind.{FileKind}
use Rattle.types.specs.declared.Outstanding.{Outstanding}
use Rattle.types.specs.declared.Outstanding.TheVariants.{Idle, Busy, Unknown}
use Rattle.types.specs.declared.ErrorPolicy.{ErrorPolicy}
use Rattle.types.specs.declared.ErrorPolicy.TheVariants.{RemountRo, ZoneRo, ZoneOffline, Repair}
use Rattle.types.specs.declared.Refusal.{Refusal}
use Rattle.types.specs.declared.Refusal.TheVariants as refusal
use Rattle.types.specs.Answers.{Verdict}
use Rattle.types.specs.Answers.{Answer}
use Rattle.types.specs.declared.Granted.TheVariants.{Done, Issue}
use Rattle.types.specs.declared.Effect.{Effect}
use Rattle.types.specs.Codes.{is_kind}
use Rattle.types.specs.Effects.{refusing}
use Rattle.types.specs.Kinds.{of_kind}
use Rattle.types.specs.Mounts.{with_account}
use Rattle.types.specs.Predicates.{is_busy}
use Rattle.types.specs.Verdicts.{refuse, answer_after}
use Rattle.table.specs.Rows.{Slot}
use Rattle.table.specs.Rows.{row_at, outstanding_in}
use Rattle.account.specs.Account.{is_open, is_active, limit_check, raises, exceeds, counted, accounted}
use Rattle.account.proofs.Laws.{accounted_mark}
use Rattle.checks.specs.Checks.{Lookup}
use Rattle.checks.specs.Checks.{counts_fit, no_kind, lookup_of, sound_row, sound_slot, found_row, file_of}
use Rattle.decision.specs.Decision.{opens_file, counts, called, limits_of, limited, dispatched}
use Rattle.calls.specs.Calls as calls
use Rattle.recovery.specs.Fits.{record_fits, misfit}
use Rattle.recovery.specs.Recovery.{nothing_lost, recovered_row, kept_open}
use Rattle.recovery.specs.Success.{row_after}
use Rattle.held.specs.Held.{issuable_on, held_on, hold_of, pending_by, pending_in, pending_of}
use Rattle.completion.specs.Completions.{Completion, good, failed, malformed, marked_by, succeeded, failing, recovered, effect_on, effect_pending}
use Rattle.completion.specs.Completions as completions
use Rattle.engine.specs.Counts.{Unread}

-- the two do the same
pub record SameEffect (d e : Effect) : Type 0 where
  pub answer : d.outcome.answer ≡ e.outcome.answer
  pub store : d.store ≡ e.store
  pub mark : d.outcome.mount.readonly ≡ e.outcome.mount.readonly

-- where neither is answered 10, 11 or 12
abbrev pub Alike : Effect → Effect → Type 0
Alike d e = Unread d.outcome.answer → Unread e.outcome.answer → SameEffect d e

-- a lookup looks at one row
pub looks : (v : Volume) (c s d t : List ℕ) (k : FileKind) (n : ℕ) → row_at (of_kind k d t) n ≡ row_at (of_kind k c s) n → lookup_of v d t k n ≡ lookup_of v c s k n
unfolding lookup_of
looks v c s d t k n e = rw e

module _ (m : Mount) (b : Account) where
  abbrev other : Mount
  other = with_account m b

  -- 10 on either side is answered
  imp_left : {e : Effect} → Alike (refusing m refusal.Impossible) e
  imp_left = λ u v. absurd (u.possible refl)

  imp_right : {d : Effect} → Alike d (refusing other refusal.Impossible)
  imp_right = λ u v. absurd (v.possible refl)

  same_refusal : (x : Refusal) → Alike (refusing m x) (refusing other x)
  same_refusal x = λ u v. record { answer = refl; store = refl; mark = refl }

  -- WITHIN THE LIMITS, or 11 or 12

  limit_cases : (P : Verdict → Type 0) (a : Account) (k : FileKind) (r : Row) (x : Call) → P (Ok tt) → P (Err refusal.OpenLimit)
      → P (Err refusal.ActiveLimit) → P (limits_of m.volume.explicit a k r x)
  unfolding limit_check refuse
  limit_cases P a k r x passed opens activates = by (opens_file k x)
    where
      after : Row
      after = called k x r

      second : (t : Bool) → P (refuse t refusal.ActiveLimit (Ok tt))
      second true = activates
      second false = passed

      first : (t u : Bool) → P (refuse t refusal.OpenLimit (refuse u refusal.ActiveLimit (Ok tt)))
      first true u = opens
      first false u = second u

      by : (t : Bool) → P (cond t (limit_check m.volume.explicit a r after) (Ok tt))
      by true =
          let e = m.volume.explicit in
          first (e && (raises (is_open r) (is_open after) && exceeds a.opened a.open_limit))
          (e && (raises (is_active e r) (is_active e after) && exceeds a.active a.active_limit))
      by false = passed

  module _ (k : FileKind) (i : ℕ) (r : Row) (x : Call) where
    -- an answer that is settled
    after_mark : (n : Mount) → (calls.mount_after n k r x).readonly ≡ n.readonly
    after_mark n = by (counts k x)
      where
        by : (t : Bool) → let p : Mount = cond t (accounted n k r (called k x r)) n in p.readonly ≡ n.readonly
        by true = accounted_mark n k r (called k x r)
        by false = refl

    settled_same : (a : Answer) → SameEffect (calls.settled m k i r x a) (calls.settled other k i r x a)
    settled_same (Err y) = record { answer = refl; store = refl; mark = refl }
    settled_same (Ok (Done count)) = record { answer = refl; store = refl; mark = after_mark m ∙ sym (after_mark other) }
    settled_same (Ok (Issue c)) = record { answer = refl; store = refl; mark = after_mark m ∙ sym (after_mark other) }

    -- one that the limits may turn into 11 or 12, on either side
    within_alike : (a : Answer) → ((v : Verdict) → limited v a ≡ answer_after v a) → Alike (calls.settled m k i r x (limited (limits_of m.volume.explicit m.account k r x) a))
        (calls.settled other k i r x (limited (limits_of m.volume.explicit b k r x) a))
    unfolding answer_after
    within_alike a h =
        rw (h (limits_of m.volume.explicit m.account k r x), h (limits_of m.volume.explicit b k r x))
        (limit_cases (λ v. Alike (calls.settled m k i r x (answer_after v a)) (calls.settled other k i r x (answer_after (limits_of m.volume.explicit b k r x) a))) m.account k r x
        (limit_cases (λ w. Alike (calls.settled m k i r x a) (calls.settled other k i r x (answer_after w a))) b k r x
        (λ u v. settled_same a) (λ u v. absurd (v.opens refl)) (λ u v. absurd (v.activates refl)))
        (λ u v. absurd (u.opens refl))
        (λ u v. absurd (u.activates refl)))

    limited_alike : (a : Answer) → Alike (calls.settled m k i r x (limited (limits_of m.volume.explicit m.account k r x) a))
        (calls.settled other k i r x (limited (limits_of m.volume.explicit b k r x) a))
    unfolding limited
    limited_alike (Err y) = λ u v. settled_same (Err y)
    limited_alike (Ok (Done count)) = within_alike (Ok (Done count)) (λ v. refl)
    limited_alike (Ok (Issue c)) = within_alike (Ok (Issue c)) (λ v. refl)

    row_alike : Alike (calls.settled m k i r x (calls.on_row m k r x)) (calls.settled other k i r x (calls.on_row other k r x))
    unfolding answer_after refuse
    row_alike = by (is_busy r.outstanding)
      where
        answer : Answer
        answer = dispatched m.readonly m.volume.explicit m.volume.block k r x

        by : (t : Bool) → Alike (calls.settled m k i r x (answer_after (refuse t refusal.Busy (Ok tt)) (limited (limits_of m.volume.explicit m.account k r x) answer)))
            (calls.settled other k i r x (answer_after (refuse t refusal.Busy (Ok tt)) (limited (limits_of m.volume.explicit b k r x) answer)))
        by true = same_refusal refusal.Busy
        by false = limited_alike answer

  -- THE TABLES may differ in rows of other files.
  module _ (c s d t : List ℕ) (k : FileKind) (i : ℕ) (same : row_at (of_kind k d t) i ≡ row_at (of_kind k c s) i) where
    -- a call
    sound_alike : (x : Call) (r : Row) (p q : Bool) → Alike (calls.on_file m k i (cond p (Ok r) (Err refusal.Impossible)) x)
        (calls.on_file other k i (cond q (Ok r) (Err refusal.Impossible)) x)
    sound_alike x r true true = row_alike k i r x
    sound_alike x r true false = imp_right
    sound_alike x r false q = imp_left

    found_alike : (x : Call) (l : Lookup) → Alike (calls.on_file m k i (found_row m k l) x) (calls.on_file other k i (found_row other k l) x)
    found_alike x (Some (Ok r)) = sound_alike x r (sound_row m.volume.block k r && counted m k r) (sound_row m.volume.block k r && counted other k r)
    found_alike x (Some (Err o)) = imp_left
    found_alike x None = same_refusal refusal.NoFile

    counts_alike : (x : Call) (l : Lookup) (p q : Bool) → Alike (calls.on_file m k i (cond p (found_row m k l) (Err refusal.Impossible)) x)
        (calls.on_file other k i (cond q (found_row other k l) (Err refusal.Impossible)) x)
    counts_alike x l true true = found_alike x l
    counts_alike x l true false = imp_right
    counts_alike x l false q = imp_left

    pub call_alike : (x : Call) → Alike (calls.effect_of m c s k i x) (calls.effect_of other d t k i x)
    unfolding file_of
    call_alike x =
        rw (looks m.volume c s d t k i same)
        (counts_alike x (lookup_of m.volume c s k i) (counts_fit m (length c) (length s)) (counts_fit other (length d) (length t)))

    -- a completion of a command that both find
    marked_same : (p : ErrorPolicy) → (marked_by p m).readonly ≡ (marked_by p other).readonly
    marked_same RemountRo = refl
    marked_same ZoneRo = refl
    marked_same ZoneOffline = refl
    marked_same Repair = refl

    either_alike : (u : Bool) (d₁ d₂ e₁ e₂ : Effect) → Alike d₁ e₁ → Alike d₂ e₂ → Alike (cond u d₁ d₂) (cond u e₁ e₂)
    either_alike true d₁ d₂ e₁ e₂ f g = f
    either_alike false d₁ d₂ e₁ e₂ f g = g

    failing_alike : (n p : Mount) (h : Held) (r : Row) → n.readonly ≡ p.readonly → Alike (failing n h r) (failing p h r)
    failing_alike n p h r e = λ u v. record { answer = refl; store = refl; mark = e }

    on_alike : (h : Held) (r : Row) (x : Completion) → Alike (effect_on m h r x) (effect_on other h r x)
    unfolding succeeded recovered
    on_alike h r good =
        λ u v. record { answer = refl; store = refl; mark = accounted_mark m h.kind r (row_after h.kind h.command r) ∙ sym (accounted_mark other h.kind r (row_after h.kind h.command r)) }
    on_alike h r (failed z) =
        let p = m.volume.policy in
        let after = kept_open h.command.kind (recovered_row p h.kind z r) in
        either_alike (record_fits m.volume.block h.kind r z) _ _ _ _
        (either_alike (nothing_lost h.kind h.command.kind z r.size) _ _ _ _ (failing_alike m other h r refl)
        (failing_alike (accounted (marked_by p m) h.kind r after) (accounted (marked_by p other) h.kind r after) h after
        (accounted_mark (marked_by p m) h.kind r after ∙ marked_same p ∙ sym (accounted_mark (marked_by p other) h.kind r after))))
        (same_refusal (refusal.BadRecord (misfit m.volume.block h.kind r z)))
    on_alike h r malformed = same_refusal _

    -- what it finds
    issued_alike : (h : Held) (r : Row) (x : Completion) (p : Bool) → Alike (effect_pending m (cond p (Ok (h, r)) (Err refusal.Impossible)) x)
        (effect_pending other (cond p (Ok (h, r)) (Err refusal.Impossible)) x)
    issued_alike h r x true = on_alike h r x
    issued_alike h r x false = imp_left

    held_alike : (h : Held) (r : Row) (x : Completion) (p q : Bool) → Alike (effect_pending m (held_on m h (cond p (Ok r) (Err refusal.Impossible))) x)
        (effect_pending other (held_on other h (cond q (Ok r) (Err refusal.Impossible))) x)
    held_alike h r x true true = issued_alike h r x (issuable_on m h r)
    held_alike h r x true false = imp_right
    held_alike h r x false q = imp_left

    slot_alike : (l : Slot) (o : Outstanding) (x : Completion) → Alike (effect_pending m (pending_by m k i (sound_slot m k l) o) x) (effect_pending other (pending_by other k i (sound_slot other k l) o) x)
    slot_alike l Idle x = same_refusal refusal.NothingOutstanding
    slot_alike (Ok r) (Busy e) x = held_alike (hold_of k i e) r x (sound_row m.volume.block k r && counted m k r) (sound_row m.volume.block k r && counted other k r)
    slot_alike (Err o) (Busy e) x = imp_left
    slot_alike l Unknown x = imp_left

    pending_alike : (l : Lookup) (x : Completion) (p q : Bool) → Alike (effect_pending m (cond p (pending_in m k i l) (Err refusal.Impossible)) x)
        (effect_pending other (cond q (pending_in other k i l) (Err refusal.Impossible)) x)
    pending_alike (Some l) x true true = slot_alike l (outstanding_in l) x
    pending_alike None x true true = same_refusal refusal.NoFile
    pending_alike l x true false = imp_right
    pending_alike l x false q = imp_left

    pub completion_alike : (x : Completion) → Alike (completions.effect_of m c s k i x) (completions.effect_of other d t k i x)
    unfolding pending_of
    completion_alike x =
        rw (looks m.volume c s d t k i same)
        (pending_alike (lookup_of m.volume c s k i) x (counts_fit m (length c) (length s)) (counts_fit other (length d) (length t)))

  -- a number that is no kind
  no_kind_alike : (p q : Bool) → Alike (refusing m (cond p refusal.NoFile refusal.Impossible)) (refusing other (cond q refusal.NoFile refusal.Impossible))
  no_kind_alike true true = same_refusal refusal.NoFile
  no_kind_alike true false = imp_right
  no_kind_alike false q = imp_left

  pub kinds_alike : (kind : ℕ) (c s d t : List ℕ) (f g : Effect) → (is_kind kind ≡ true → Alike f g)
      → Alike (cond (is_kind kind) f (refusing m (no_kind m (length c) (length s)))) (cond (is_kind kind) g (refusing other (no_kind other (length d) (length t))))
  kinds_alike kind c s d t f g on = by (is_kind kind) on
    where
      by : (u : Bool) → (u ≡ true → Alike f g) → Alike (cond u f (refusing m (no_kind m (length c) (length s)))) (cond u g (refusing other (no_kind other (length d) (length t))))
      by true on = on refl
      by false on = no_kind_alike (counts_fit m (length c) (length s)) (counts_fit other (length d) (length t))
