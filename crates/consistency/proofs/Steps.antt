-- Every truthful event keeps the invariant of the system, and no truthful completion is answered 1, 8, 9 or 10.
-- Assumes nothing.
use Rattle.std.specs.Prelude.{Ok, Err, Some, None}
use mathlib.Core.Bool.{Bool, true, false, not, cond, ◌&&◌, ◌||◌}
use mathlib.Core.List.{List, [], ◌∷◌}
use mathlib.Core.Path.{◌≡◌, refl, sym, ap, ◌∙◌, subst}
use Prim.Native.Nat.{ℕ, ◌<◌}
use lib.ListN.{length, get_or, set}
use borrow.Author.Tests.{eq-eqb}
use Rattle.types.specs.declared.Row.{Row}
use Rattle.types.specs.declared.Volume.{Volume}
use Rattle.types.specs.declared.Call.{Call}
use Rattle.types.specs.declared.Command.{Command}
use Rattle.types.specs.declared.Condition.{Condition}
use Rattle.types.specs.declared.FileKind.{FileKind}
use Rattle.types.specs.declared.FileKind.TheVariants.{Conventional, Sequential}
use Rattle.types.specs.declared.ErrorPolicy.{ErrorPolicy}
use Rattle.types.specs.declared.Refusal.TheVariants as refusal
use Rattle.types.specs.Answers.{Answer, Store}
use Rattle.types.specs.declared.Granted.TheVariants.{Done, Issue}
use Rattle.types.specs.Codes.{kind_from}
use Rattle.types.specs.declared.Outstanding.{Outstanding}
use Rattle.types.specs.declared.Outstanding.TheVariants.{Idle, Busy, Unknown}
use Rattle.types.specs.Kinds.{of_kind, files_of}
use Rattle.types.proofs.Tests.{and_left, and_right}
use Rattle.types.proofs.Blocks.{IsBlock}
use Rattle.table.specs.Rows.{Slot, row_at, stored, with_outstanding, with_opens, cleared}
use Rattle.checks.specs.Checks.{Lookup}
use Rattle.checks.specs.Checks.{lookup_of}
use Rattle.checks.specs.Facts.{Reached}
use Rattle.checks.proofs.Laws.{lookup_some, reached_lent, reached_sound}
use Rattle.calls.specs.Calls as calls
use Rattle.calls.proofs.Laws.{call_cases, effect_keeps}
use Rattle.decision.specs.Decision.{counts, opens_after}
use Rattle.zones.specs.declared.Zone.{Zone}
use Rattle.zones.specs.Zone.{zone_bytes, zone_at}
use Rattle.types.specs.declared.Effect.{Effect}
use Rattle.recovery.specs.Fits.{record_fits}
use Rattle.recovery.specs.Recovery.{nothing_lost, recovered_row, kept_open}
use Rattle.held.specs.Held.{hold_of}
use Rattle.held.specs.Facts.{Ready}
use Rattle.completion.specs.Completions.{Completion, failed, completion_of, completion_by, effect_of}
use Rattle.completion.proofs.Laws.{effect_idle, effect_none, effect_fixes}
use Rattle.disk.specs.Disk.{DiskZone, Mishap, Choice, Performed, reported, moved, worsened, fallen, struck, perform, performed_by, allows, no_zone}
use Rattle.consistency.specs.FileHistory.{FileHistory}
use Rattle.engine.specs.Engine.{applied}
use Rattle.engine.specs.Engine as engine
use Rattle.engine.proofs.Laws.{call_by, completion_by_lem}
use Rattle.consistency.specs.Possible.{Possible}
use Rattle.consistency.proofs.Kept.{possible_call, possible_ready, answering, call_possible, completion_possible}
use Rattle.consistency.proofs.Busy.{row_on, busy_known, busy_kind, kind_on, completion_on}
use Rattle.consistency.proofs.Agrees.{agrees_beside}
use Rattle.disk.specs.Shows.{shows_record}
use Rattle.disk.specs.Facts.{ShowsRecord}
use Rattle.disk.proofs.Shows.{record_told}
use Rattle.consistency.specs.System.{System, holds_seq_file, outstanding_on, outstanding_by, Event, call, mishap, doing, stray, place_of, perform_in, settled_in, done_by, stray_by, step, run, truthful_by, truthful, all_truthful}
use Rattle.disk.proofs.SoundZone.{SoundZone, sound_struck, reported-shows}
use Rattle.consistency.proofs.Mishaps.{keeps_mishap}
use Rattle.held.proofs.Issued.{Within, Issued, issuable_tells}
use Rattle.consistency.proofs.Doings.{completed_row, keeps_command}
use Rattle.consistency.proofs.Bridge.{no_row, Listed, set_became, listed_became}
use Rattle.consistency.proofs.Files.{Files, Own, own, alter, files_beside, Inside, inside_moved, Covers, covers_set, covers_same, set_keeps, kinds_differ, kinds, kinds_set}
use Rattle.consistency.proofs.Fits.{report_fits, inside_fits}
use Rattle.consistency.proofs.Effects.{Completed, good_completed, failed-completed}

-- THE INVARIANT
pub record Invariant (v : Volume) (ks : List FileKind) (w : System) : Type 0 where
  pub same : w.state.mount.volume ≡ v
  pub block : IsBlock w.state.mount.volume.block
  pub zones : kinds w.disk ≡ ks
  pub rows : List Row
  pub listed : Listed w.state.seq rows w.state.mount.volume.sequential
  pub files : Files w.state.mount.volume.block w.state.mount.volume.policy 0 w.disk w.histories rows w.state.mount.volume.sequential
  pub plain : List Row
  pub plainly : Listed w.state.cnv plain w.state.mount.volume.conventional
  pub covers : (n : ℕ) → n < w.state.mount.volume.conventional → Covers w.state.mount.volume.block w.disk (get_or plain n no_row)
  pub possible : Possible w.state

-- the row of a file is listed
listed_row : {v : Volume} {ks : List FileKind} {w : System} (r : Invariant v ks w) (k : FileKind) (n : ℕ) → n < files_of k w.state.mount.volume
    → row_at (of_kind k w.state.cnv w.state.seq) n ≡ Ok (get_or (of_kind k r.plain r.rows) n no_row)
listed_row r Conventional n h = r.plainly.row n h
listed_row r Sequential n h = r.listed.row n h

-- and passes 10 and 1
row_reached : {v : Volume} {ks : List FileKind} {w : System} (r : Invariant v ks w) (k : FileKind) (n : ℕ) → n < files_of k w.state.mount.volume
    → Reached w.state.mount w.state.cnv w.state.seq k n (get_or (of_kind k r.plain r.rows) n no_row)
row_reached {w = w} r k n h =
    let (q, x) = possible_call r.possible k n h in
    let g : ◌≡◌ {A = Slot} (Ok q) (Ok (get_or (of_kind k r.plain r.rows) n no_row)) = sym x.row ∙ listed_row r k n h in
    let same : q ≡ get_or (of_kind k r.plain r.rows) n no_row = cc in
    subst (Reached w.state.mount w.state.cnv w.state.seq k n) same x

-- A CALL leaves what the mount fixes, and of the rows all but what is outstanding on one, and its opens.
module _ {v : Volume} {ks : List FileKind} {w : System} (r : Invariant v ks w) where
  abbrev After : Effect → Type 0
  After d = Invariant v ks (record { state = applied w.state d; disk = w.disk; histories = w.histories })

  -- a row is stored with other opens, on which something else is outstanding
  beside_stored : (k : FileKind) (n m : ℕ) (o : Outstanding) (d : Effect) → n < files_of k w.state.mount.volume → d.outcome.mount.volume ≡ w.state.mount.volume
      → d.store ≡ Some (k, n, with_outstanding (with_opens (get_or (of_kind k r.plain r.rows) n no_row) m) o) → Possible (applied w.state d) → After d
  beside_stored Sequential n m o d h same put possible =
      let q = with_outstanding (with_opens (get_or r.rows n no_row) m) o in
      let lent = reached_lent w.state.mount w.state.cnv w.state.seq Sequential n (get_or r.rows n no_row) (row_reached r Sequential n h) in
      record {
        same = rw same r.same;
        block = rw same r.block;
        zones = r.zones;
        rows = set r.rows n q;
        listed = rw (same, put) (listed_became r.listed h (set_became w.state.seq n q lent));
        files = rw same (files_beside r.files n m o);
        plain = r.plain;
        plainly = rw (same, put) r.plainly;
        covers = rw same r.covers;
        possible = possible;
      }
  beside_stored Conventional n m o d h same put possible =
      let q = with_outstanding (with_opens (get_or r.plain n no_row) m) o in
      let lent = reached_lent w.state.mount w.state.cnv w.state.seq Conventional n (get_or r.plain n no_row) (row_reached r Conventional n h) in
      record {
        same = rw same r.same;
        block = rw same r.block;
        zones = r.zones;
        rows = r.rows;
        listed = rw (same, put) r.listed;
        files = rw same r.files;
        plain = set r.plain n q;
        plainly = rw (same, put) (listed_became r.plainly h (set_became w.state.cnv n q lent));
        covers = rw same (λ j l. set_keeps (λ x. Covers w.state.mount.volume.block w.disk x) no_row r.plain n j q (λ u. covers_same refl refl u) (r.covers j l));
        possible = possible;
      }

  -- what a call does to its row
  module _ (k : FileKind) (n : ℕ) (x : Call) (q : Row) (h : n < files_of k w.state.mount.volume) (e : q ≡ get_or (of_kind k r.plain r.rows) n no_row) where
    abbrev storing : Outstanding → Row → Store
    storing o y = Some (k, n, with_outstanding (with_opens y (opens_after k x q.opens)) o)

    beside : (o : Outstanding) → storing o q ≡ storing o (get_or (of_kind k r.plain r.rows) n no_row)
    beside o = ap (storing o) e

    row_called : (a : Answer) → let d = calls.settled w.state.mount k n q x a in d.outcome.mount.volume ≡ w.state.mount.volume → Possible (applied w.state d) → After d
    row_called (Err y) same p = r
    row_called (Ok (Done count)) same p = by (counts k x) same p
      where
        by : (t : Bool) → let d = answering w.state.mount k n q x count t in d.outcome.mount.volume ≡ w.state.mount.volume → Possible (applied w.state d) → After d
        by true same p = beside_stored k n (opens_after k x q.opens) q.outstanding (answering w.state.mount k n q x count true) h same (beside q.outstanding) p
        by false same p = r
    row_called (Ok (Issue c)) same p = beside_stored k n (opens_after k x q.opens) (Busy c) (calls.settled w.state.mount k n q x (Ok (Issue c))) h same (beside (Busy c)) p

  file_called : (k : FileKind) (n : ℕ) (x : Call) → After (calls.effect_of w.state.mount w.state.cnv w.state.seq k n x)
  file_called k n x =
      call_cases w.state.mount w.state.cnv w.state.seq k n x (λ d. d.outcome.mount.volume ≡ w.state.mount.volume → Possible (applied w.state d) → After d)
      (λ q u. row_called k n x q u.number
      (let g : ◌≡◌ {A = Slot} (Ok q) (Ok (get_or (of_kind k r.plain r.rows) n no_row)) = sym u.row ∙ listed_row r k n u.number in cc)
      (calls.on_row w.state.mount k q x))
      (λ y f same p. r) (effect_keeps w.state.mount w.state.cnv w.state.seq k n x).0.0 (call_possible r.possible k n x)

  invariant_call : (kind n : ℕ) (x : Call) → Invariant v ks (step w (call kind n x))
  unfolding step engine.step
  invariant_call kind n x = call_by w.state.mount w.state.cnv w.state.seq After kind n x (λ e. file_called (kind_from kind) n x) r

-- A MISHAP.
invariant_mishap : {v : Volume} {ks : List FileKind} {w : System} → Invariant v ks w → (i : ℕ) (e : Mishap) → Invariant v ks (step w (mishap i e))
unfolding step struck moved
invariant_mishap {v} {ks} {w} r i e =
    let b = w.state.mount.volume.block in
    let z = get_or w.disk i no_zone in
    record {
      same = r.same;
      block = r.block;
      zones = kinds_set w.disk i (fallen b z z.pointer e.blocks) (worsened z.condition e.harm) ∙ r.zones;
      rows = r.rows;
      listed = r.listed;
      files = alter r.files i (struck b z z.pointer e) _ refl refl refl (λ s. sound_struck r.block z s z.pointer e s.point) (λ x a. keeps_mishap r.block e a);
      plain = r.plain;
      plainly = r.plainly;
      covers = λ n h. covers_set w.disk i (fallen b z z.pointer e.blocks) (worsened z.condition e.harm) (r.covers n h);
      possible = r.possible;
    }

-- WHAT THE DISK DOES with a command leaves the zone where it was.
performed_by_lem : (P : DiskZone → Type 0) (b : ℕ) (q : Bool) (z : DiskZone) (c : Command) (o : Choice) (t : Bool) → ((to : ℕ) (h : Condition) → P (moved z to h)) → P (performed_by t b q z c o).zone
unfolding struck
performed_by_lem P b q z c o true f = f _ _
performed_by_lem P b q z c o false f = f _ _

performed_moved : (P : DiskZone → Type 0) (b : ℕ) (q : Bool) (z : DiskZone) (c : Command) (o : Choice) → ((to : ℕ) (h : Condition) → P (moved z to h)) → P (perform b q z c o).zone
unfolding perform
performed_moved P b q z c o f = performed_by_lem P b q z c o (allows q z c && not o.fails) f

start_kept : (b : ℕ) (q : Bool) (z : DiskZone) (c : Command) (o : Choice) → (perform b q z c o).zone.start ≡ z.start
unfolding moved
start_kept b q z c o = performed_moved (λ new. new.start ≡ z.start) b q z c o (λ to h. refl)

length_kept : (b : ℕ) (q : Bool) (z : DiskZone) (c : Command) (o : Choice) → (perform b q z c o).zone.length ≡ z.length
unfolding moved
length_kept b q z c o = performed_moved (λ new. new.length ≡ z.length) b q z c o (λ to h. refl)

file_kept : (b : ℕ) (q : Bool) (z : DiskZone) (c : Command) (o : Choice) → holds_seq_file (perform b q z c o).zone ≡ holds_seq_file z
unfolding moved
file_kept b q z c o = performed_moved (λ new. holds_seq_file new ≡ holds_seq_file z) b q z c o (λ to h. refl)

-- a conventional row stays where it was
abbrev InPlace : Row → Row → Type 0
InPlace r new = (new.start ≡ r.start) × (new.capacity ≡ r.capacity)

plain_in_place : (t : Bool) (p : ErrorPolicy) (c : Command) (z : Zone) (r : Row) → InPlace r (completed_row Conventional t p c z r)
unfolding recovered_row
plain_in_place true p c z r = (refl, refl)
plain_in_place false p c z r = by (nothing_lost Conventional c.kind z r.size)
  where
    by : (t : Bool) → InPlace r (cond t r (kept_open c.kind (recovered_row p Conventional z r)))
    by true = (refl, refl)
    by false = (refl, refl)

-- a failure's bytes, where they are as many as a record has
failure_told : (given : Bool) (bytes : List ℕ) → length bytes ≡ zone_bytes → completion_of given bytes ≡ failed (zone_at given bytes 0)
unfolding completion_of
failure_told given bytes e = rw (eq-eqb _ _ e)

-- the answer to a truthful completion: the count, or 7 with the new size
abbrev pub replied : Bool → Command → Row → Answer
replied t c r = cond t (Ok (Done c.length)) (Err (refusal.Failed r.size))

module _ {v : Volume} {ks : List FileKind} {w : System} (r : Invariant v ks w) (k : FileKind) (n : ℕ) (c : Command) (e : outstanding_on w.state k n ≡ Busy c) where
  abbrev row : Row
  row = get_or (of_kind k r.plain r.rows) n no_row

  pub known : n < files_of k w.state.mount.volume
  known = busy_known w.state k n c e

  pub ready : Ready w.state.mount w.state.cnv w.state.seq (hold_of k n c) row
  ready = possible_ready r.possible k n c row (row_reached r k n known) (sym (row_on w.state k n row known (listed_row r k n known)) ∙ e)

  pub issue : Issued w.state.mount.volume.block k row c
  issue = issuable_tells w.state.mount.volume.explicit w.state.mount.volume.block k row c ready.issued

  pub lies : Within row c.address
  lies = issue.within (reached_sound w.state.mount w.state.cnv w.state.seq k n row ready.reached).roomy

  module _ (o : Choice) where
    abbrev done : Performed
    done = perform_in w c o

    zones_after : kinds (set w.disk (place_of w c) done.zone) ≡ ks
    zones_after = performed_moved (λ x. kinds (set w.disk (place_of w c) x) ≡ ks) _ _ _ c o (λ to h. kinds_set w.disk (place_of w c) to h ∙ r.zones)

    pub covers_after : (m : ℕ) → m < w.state.mount.volume.conventional → Covers w.state.mount.volume.block (set w.disk (place_of w c) done.zone) (get_or r.plain m no_row)
    covers_after m h = performed_moved (λ x. Covers w.state.mount.volume.block (set w.disk (place_of w c) x) (get_or r.plain m no_row)) _ _ _ c o (λ to x. covers_set w.disk (place_of w c) to x (r.covers m h))

    -- what the completion leaves has the invariant, with these rows of the seq files and of the cnv files
    pub invariant_settled : (d : Effect) {ss : List FileHistory} (rows plain : List Row) → let vol = w.state.mount.volume in let disk = set w.disk (place_of w c) done.zone in
        d.outcome.mount.volume ≡ vol → Listed (stored Sequential d.store w.state.seq) rows vol.sequential → Files vol.block vol.policy 0 disk ss rows vol.sequential
        → Listed (stored Conventional d.store w.state.cnv) plain vol.conventional → ((m : ℕ) → m < vol.conventional → Covers vol.block disk (get_or plain m no_row))
        → Possible (applied w.state d) → Invariant v ks (record { state = applied w.state d; disk = disk; histories = ss })
    invariant_settled d rows plain u listed files plainly covers possible =
        record {
          same = u ∙ r.same;
          block = rw u r.block;
          zones = zones_after;
          rows = rows;
          listed = rw u listed;
          files = rw u files;
          plain = plain;
          plainly = rw u plainly;
          covers = rw u covers;
          possible = possible;
        }

    module _ (given : Bool) (bytes : List ℕ) where
      abbrev pub new : Row
      new = cleared (completed_row k done.succeeded w.state.mount.volume.policy c (zone_at given bytes 0) row)

      -- the completion is answered by the count or by 7, and leaves the row that the disk's doing asks for
      pub completed : (done.succeeded ≡ false → length bytes ≡ zone_bytes) → (done.succeeded ≡ false → record_fits w.state.mount.volume.block k row (zone_at given bytes 0) ≡ true)
          → Completed w.state.cnv w.state.seq k n new (replied done.succeeded c new) (effect_of w.state.mount w.state.cnv w.state.seq k n (completion_by done.succeeded given bytes))
      completed long fits = by done.succeeded long fits
        where
          by : (t : Bool) → (t ≡ false → length bytes ≡ zone_bytes) → (t ≡ false → record_fits w.state.mount.volume.block k row (zone_at given bytes 0) ≡ true)
              → let x = cleared (completed_row k t w.state.mount.volume.policy c (zone_at given bytes 0) row) in
              Completed w.state.cnv w.state.seq k n x (replied t c x) (effect_of w.state.mount w.state.cnv w.state.seq k n (completion_by t given bytes))
          by true long fits = good_completed w.state.mount w.state.cnv w.state.seq k n c row ready
          by false long fits = rw (failure_told given bytes (long refl)) (failed-completed w.state.mount w.state.cnv w.state.seq k n c row ready (zone_at given bytes 0) (fits refl))

-- what a truthful doing tells of its bytes
abbrev pub Told : System → Command → Choice → Bool → List ℕ → Type 0
Told w c o given bytes = (perform_in w c o).succeeded ≡ false → ShowsRecord given bytes (perform_in w c o).zone

module _ {v : Volume} {ks : List FileKind} {w : System} (r : Invariant v ks w) (n : ℕ) (c : Command) (o : Choice) where
  -- the zone of a seq file's command
  pub owns : outstanding_on w.state Sequential n ≡ Busy c
      → Own w.state.mount.volume.block w.state.mount.volume.policy 0 w.disk w.histories r.rows w.state.mount.volume.sequential n (place_of w c)
  owns e = own r.files n c.address (known r Sequential n c e) (lies r Sequential n c e).low (lies r Sequential n c e).high

  -- that of a cnv file's, before and after
  stands : outstanding_on w.state Conventional n ≡ Busy c → Inside w.state.mount.volume.block (get_or r.plain n no_row) (get_or w.disk (place_of w c) no_zone)
  stands e = (r.covers n (known r Conventional n c e)).at c.address (lies r Conventional n c e).low (lies r Conventional n c e).high

  pub stood : outstanding_on w.state Conventional n ≡ Busy c → Inside w.state.mount.volume.block (get_or r.plain n no_row) (perform_in w c o).zone
  stood e = performed_moved (λ x. Inside w.state.mount.volume.block (get_or r.plain n no_row) x) _ _ _ c o (λ to h. inside_moved (stands e) to h)

  module _ (given : Bool) (bytes : List ℕ) (told : Told w c o given bytes) where
    abbrev answer : Completion
    answer = completion_by (perform_in w c o).succeeded given bytes

    -- a command of a seq file
    module _ (e : outstanding_on w.state Sequential n ≡ Busy c) where
      pub seq-completed : let x = new r Sequential n c e o given bytes in
          Completed w.state.cnv w.state.seq Sequential n x (replied (perform_in w c o).succeeded c x) (effect_of w.state.mount w.state.cnv w.state.seq Sequential n answer)
      seq-completed = completed r Sequential n c e o given bytes (λ f. (told f).long) (λ f. report_fits r.block (owns e).agrees c (issue r Sequential n c e) o (zone_at given bytes 0) f (told f).shows)

      invariant_seq : Invariant v ks (settled_in w c (perform_in w c o) (applied w.state (effect_of w.state.mount w.state.cnv w.state.seq Sequential n answer)))
      invariant_seq = invariant_settled r Sequential n c e o (effect_of w.state.mount w.state.cnv w.state.seq Sequential n answer) (set r.rows n (new r Sequential n c e o given bytes)) r.plain (effect_fixes w.state.mount w.state.cnv w.state.seq Sequential n answer).0
          (listed_became r.listed (known r Sequential n c e) seq-completed.here)
          ((owns e).put _ _ _ (start_kept _ _ _ c o) (length_kept _ _ _ c o) (agrees_beside _ Idle (keeps_command r.block (owns e).agrees c (issue r Sequential n c e) o (zone_at given bytes 0) (λ f. (told f).shows))))
          (rw (seq-completed.other Conventional w.state.cnv (λ q. kinds_differ (sym q))) r.plainly)
          (covers_after r Sequential n c e o)
          (completion_possible r.possible Sequential n answer)

    -- a command of a cnv file
    module _ (e : outstanding_on w.state Conventional n ≡ Busy c) where
      pub cnv-completed : let x = new r Conventional n c e o given bytes in
          Completed w.state.cnv w.state.seq Conventional n x (replied (perform_in w c o).succeeded c x) (effect_of w.state.mount w.state.cnv w.state.seq Conventional n answer)
      cnv-completed = completed r Conventional n c e o given bytes (λ f. (told f).long) (λ f. inside_fits (stood e) (told f).shows)

      invariant_cnv : Invariant v ks (settled_in w c (perform_in w c o) (applied w.state (effect_of w.state.mount w.state.cnv w.state.seq Conventional n answer)))
      invariant_cnv = invariant_settled r Conventional n c e o (effect_of w.state.mount w.state.cnv w.state.seq Conventional n answer) r.rows (set r.plain n (new r Conventional n c e o given bytes)) (effect_fixes w.state.mount w.state.cnv w.state.seq Conventional n answer).0
          (rw (cnv-completed.other Sequential w.state.seq kinds_differ) r.listed)
          (alter r.files _ _ _ (start_kept _ _ _ c o) (length_kept _ _ _ c o) (file_kept _ _ _ c o) (λ s. (stood e).sound) (λ x a. absurd (kinds_differ (sym (stands e).kind ∙ a.kind))))
          (listed_became r.plainly (known r Conventional n c e) cnv-completed.here)
          (λ m h. set_keeps (λ x. Covers w.state.mount.volume.block (set w.disk (place_of w c) (perform_in w c o).zone) x) no_row r.plain n m (new r Conventional n c e o given bytes)
          (λ v. let q = plain_in_place (perform_in w c o).succeeded _ c _ _ in covers_same q.0 q.1 v) (covers_after r Conventional n c e o m h))
          (completion_possible r.possible Conventional n answer)

-- WHATEVER THE DISK DOES with the command that is held, the zone is good input.
pub performed_sound : {v : Volume} {ks : List FileKind} {w : System} → Invariant v ks w → (k : FileKind) (n : ℕ) (c : Command) (o : Choice) → outstanding_on w.state k n ≡ Busy c
    → SoundZone w.state.mount.volume.block (perform_in w c o).zone
performed_sound {w = w} r Conventional n c o e = (stood r n c o e).sound
performed_sound {w = w} r Sequential n c o e =
    (keeps_command r.block (owns r n c o e).agrees c (issue r Sequential n c e) o (reported (perform_in w c o).zone) (λ f. reported-shows (perform_in w c o).zone)).sound

-- a doing that is done, or whose bytes show the zone
pub truthful-told : (w : System) (kind n : ℕ) (c : Command) → outstanding_by w.state kind n ≡ Busy c → (o : Choice) (given : Bool) (bytes : List ℕ)
    → truthful w (doing kind n o given bytes) ≡ true → Told w c o given bytes
truthful-told w kind n c e o given bytes t f =
    let d = perform_in w c o in
    let u : truthful_by (Busy c) w o given bytes ≡ true = subst (λ (x : Outstanding). truthful_by x w o given bytes ≡ true) e t in
    record_told given bytes d.zone (subst (λ (s : Bool). s || shows_record given bytes d.zone ≡ true) f u)

-- A DOING, of whichever file's command
module _ {v : Volume} {ks : List FileKind} {w : System} (r : Invariant v ks w) (kind n : ℕ) (o : Choice) (given : Bool) (bytes : List ℕ) where
  file_done : (k : FileKind) (c : Command) → outstanding_on w.state k n ≡ Busy c → Told w c o given bytes
      → Invariant v ks (settled_in w c (perform_in w c o) (applied w.state (effect_of w.state.mount w.state.cnv w.state.seq k n (completion_by (perform_in w c o).succeeded given bytes))))
  file_done Sequential c e told = invariant_seq r n c o given bytes told e
  file_done Conventional c e told = invariant_cnv r n c o given bytes told e

  invariant_doing : truthful w (doing kind n o given bytes) ≡ true → Invariant v ks (step w (doing kind n o given bytes))
  unfolding step engine.step
  invariant_doing t = by (outstanding_by w.state kind n) refl
    where
      by : (x : Outstanding) → outstanding_by w.state kind n ≡ x → Invariant v ks (done_by x w kind n o given bytes)
      by Idle e = r
      by (Busy c) e =
          let (is, on) = busy_kind w.state kind n c e in
          rw (completion_on w.state kind n (completion_by (perform_in w c o).succeeded given bytes) is)
          (file_done (kind_from kind) c on (truthful-told w kind n c e o given bytes t))
      by Unknown e = r

-- A STRAY COMPLETION, of a file with nothing outstanding, or of none
module _ {v : Volume} {ks : List FileKind} {w : System} (r : Invariant v ks w) where
  file_stray : (k : FileKind) (n : ℕ) (x : Completion) → outstanding_on w.state k n ≡ Idle → After r (effect_of w.state.mount w.state.cnv w.state.seq k n x)
  file_stray k n x e = by (lookup_of w.state.mount.volume w.state.cnv w.state.seq k n) refl
    where
      by : (y : Lookup) → lookup_of w.state.mount.volume w.state.cnv w.state.seq k n ≡ y → After r (effect_of w.state.mount w.state.cnv w.state.seq k n x)
      by (Some y) f =
          let known = lookup_some w.state.mount.volume w.state.cnv w.state.seq k n y f in
          let row = get_or (of_kind k r.plain r.rows) n no_row in
          rw (effect_idle w.state.mount w.state.cnv w.state.seq k n row x (row_reached r k n known) (sym (row_on w.state k n row known (listed_row r k n known)) ∙ e)) r
      by None f = rw (effect_none w.state.mount w.state.cnv w.state.seq k n x r.possible.counts f) r

  invariant_stray : (kind n : ℕ) (x : Completion) → Invariant v ks (step w (stray kind n x))
  unfolding step engine.step
  invariant_stray kind n x = by (outstanding_by w.state kind n) refl
    where
      by : (y : Outstanding) → outstanding_by w.state kind n ≡ y → Invariant v ks (stray_by y w kind n x)
      by Idle e =
          completion_by_lem w.state.mount w.state.cnv w.state.seq (After r) kind n x
          (λ is. file_stray (kind_from kind) n x (sym (kind_on w.state kind n is) ∙ e)) r
      by (Busy c) e = r
      by Unknown e = r

invariant_step : {v : Volume} {ks : List FileKind} {w : System} → Invariant v ks w → (e : Event) → truthful w e ≡ true → Invariant v ks (step w e)
invariant_step r (call kind n x) t = invariant_call r kind n x
invariant_step r (mishap i e) t = invariant_mishap r i e
invariant_step r (doing kind n o given bytes) t = invariant_doing r kind n o given bytes t
invariant_step r (stray kind n x) t = invariant_stray r kind n x

pub invariant_run : {v : Volume} {ks : List FileKind} {w : System} → Invariant v ks w → (es : List Event) → all_truthful w es ≡ true → Invariant v ks (run w es)
unfolding run all_truthful
invariant_run r [] t = r
invariant_run {w = w} r (e ∷ es) t = invariant_run {w = step w e} (invariant_step r e (and_left _ _ t)) es (and_right (truthful w e) _ t)
