-- The reply to an event fits into the room made for it.
use Rattle.std.proofs.Common.{◌≡◌, ℕ, List, [], ◌∷◌, Option, Some, None, sym, subst}
use Rattle.std.specs.Prelude.{◌==◌}
use Rattle.std.proofs.lemmas.Bool.{cond_both}
use Rattle.hek_rules.specs.declared.event.Event.{Event}
use Rattle.hek_rules.specs.declared.event.Event.TheVariants as event
use Rattle.hek_rules.specs.declared.event.WriteEntry.{WriteEntry}
use Rattle.hek_rules.specs.declared.event.WriteEntry.TheVariants.{BeginOf, EndOf}
use Rattle.hek_rules.specs.declared.reply.Reply.{Reply}
use Rattle.hek_rules.specs.Listing.{seconds_of}
use Rattle.hek_rules.specs.Plan.{Plan}
use Rattle.hek_rules.specs.World.{World, bucket_of, version_in, is_held_by}
use Rattle.hek_rules.specs.Waits.{waits, commit_deps}
use Rattle.hek_rules.specs.Walk.{Judgement, Refuse, Allow, of_key, of_bucket, walk, last, seen_of, ToRead, ToWrite}
use Rattle.hek_rules.specs.WaitGraph.{victim}
use Rattle.hek_rules.specs.Table.{Outcome, outcome, is_claimed, after_read, after_scan, after_insert, after_update, after_delete, release_waiter, release_bucket, release_first, stamp_committed, stamp_aborted, entries_of, detect_rule}
use Rattle.hek_rules.specs.Run.{run}
use Rattle.hek_laws.proofs.Table.Cases.{each_event}
use Rattle.hek_machine.specs.declared.engine.Engine.{Engine}
use Rattle.hek_machine.specs.Stands.{StandsFor}
use Rattle.hek_machine.specs.Observed.{opening_of}
use Rattle.hek_machine.specs.Steps.{IsMachineStep, IsSmall}
use Rattle.hek_worker.specs.declared.entry.Entry.{Entry}
use Rattle.hek_worker.specs.Room.{Fits, room_for}
use Rattle.hek_worker.specs.History.{Replays, history_events}

module _ (w : World) (t : ℕ) where
  abbrev Goes : Event → Reply → Type 0
  Goes e r = IsSmall w r → Fits (room_for w e) r

  fits-read : (e : Event) (target : Option ℕ) (j : Judgement) → Goes e (after_read w t target j).reply
  fits-read e target (Refuse cause) h = tt
  fits-read e None (Allow es) h = tt
  fits-read e (Some v) (Allow es) h = tt

  fits-scan : (bucket : ℕ) (seen : List ℕ) (j : Judgement) → Goes (event.Scan t bucket) (after_scan w t seen j).reply
  fits-scan bucket seen (Refuse cause) h = tt
  fits-scan bucket seen (Allow es) h = h

  fits-insert : (e : Event) (key value : ℕ) (target : Option ℕ) (j : Judgement) → Goes e (after_insert w t key value target j).reply
  fits-insert e key value target (Refuse cause) h = tt
  fits-insert e key value (Some v) (Allow es) h = tt
  fits-insert e key value None (Allow es) h = cond_both (is_claimed w t (of_key w key)) _ _ (λ (o : Outcome). Fits (room_for w e) o.reply) (λ _. tt) (λ _. tt)

  fits-update : (e : Event) (key value : ℕ) (target : Option ℕ) (j : Judgement) → Goes e (after_update w t key value target j).reply
  fits-update e key value target (Refuse cause) h = tt
  fits-update e key value None (Allow es) h = tt
  fits-update e key value (Some v) (Allow es) h = tt

  fits-delete : (e : Event) (target : Option ℕ) (j : Judgement) → Goes e (after_delete w t target j).reply
  fits-delete e target (Refuse cause) h = tt
  fits-delete e None (Allow es) h = tt
  fits-delete e (Some v) (Allow es) h = tt

  fits-waiter : (e : Event) (us : List ℕ) → Goes e (release_waiter w t us).reply
  fits-waiter e [] h = tt
  fits-waiter e (u ∷ us) h = tt

  fits-bucket : (e : Event) (bs : List ℕ) → Goes e (release_bucket w t bs).reply
  fits-bucket e [] h = fits-waiter e (seconds_of w.waiters t) h
  fits-bucket e (b ∷ bs) h = tt

  fits-release : (e : Event) (vs : List ℕ) → Goes e (release_first w t vs).reply
  fits-release e [] h = fits-bucket e (seconds_of w.bucket_locks t) h
  fits-release e (v ∷ vs) h = tt

  fits-stamp : (e : Event) (es : List WriteEntry) → Goes e (stamp_committed w t es).reply
  fits-stamp e [] h = tt
  fits-stamp e (BeginOf v ∷ es) h = tt
  fits-stamp e (EndOf v ∷ es) h = tt

  fits-undo : (e : Event) (es : List WriteEntry) → Goes e (stamp_aborted w t es).reply
  fits-undo e [] h = tt
  fits-undo e (BeginOf v ∷ es) h = tt
  fits-undo e (EndOf v ∷ es) h = cond_both (is_held_by t (version_in w.versions v).ender) _ _ (Fits (room_for w e)) (λ _. tt) (λ _. tt)

fits-victim : (w : World) (answer : Option (ℕ × List ℕ)) → IsSmall w (detect_rule w answer).reply → Fits (room_for w event.Detect) (detect_rule w answer).reply
fits-victim w None h = tt
fits-victim w (Some a) h = h

fits-outcome : (w : World) (e : Event) → IsSmall w (outcome w e).reply → Fits (room_for w e) (outcome w e).reply
fits-outcome w e = each_event {w = w} {P = λ e o. IsSmall w o.reply → Fits (room_for w e) o.reply} (record {
  refusal = λ e why h. tt;
  repeated = λ e t cause _ _ h. tt;
  cascade = λ e t _ _ _ h. tt;
  begin = λ t _ _ h. tt;
  read = λ t key _. fits-read w t (event.Read t key) (last (seen_of w t (of_key w key))) (walk w t ToRead (bucket_of w key) (of_key w key));
  scan = λ t bucket _. fits-scan w t bucket (seen_of w t (of_bucket w bucket)) (walk w t ToRead bucket (of_bucket w bucket));
  insert = λ t key value _. fits-insert w t (event.Insert t key value) key value (last (seen_of w t (of_key w key))) (walk w t ToRead (bucket_of w key) (of_key w key));
  update = λ t key value _. fits-update w t (event.Update t key value) key value (last (seen_of w t (of_key w key))) (walk w t ToWrite (bucket_of w key) (of_key w key));
  delete = λ t key _. fits-delete w t (event.Delete t key) (last (seen_of w t (of_key w key))) (walk w t ToWrite (bucket_of w key) (of_key w key));
  finish = λ t _ h. tt;
  precommit = λ t _ _. cond_both (waits w t == 0) _ _ (λ (o : Outcome). IsSmall w o.reply → Fits (room_for w (event.Precommit t)) o.reply) (λ _ h. tt) (λ _ h. tt);
  fail = λ t _ h. tt;
  release = λ t _. fits-release w t (event.Release t) (seconds_of w.read_locks t);
  commit = λ t _. cond_both (commit_deps w t == 0) _ _ (λ (o : Outcome). IsSmall w o.reply → Fits (room_for w (event.Commit t)) o.reply) (λ _ h. tt) (λ _ h. tt);
  stamp_committed = λ t _. fits-stamp w t (event.Stamp t) (entries_of w.writes t);
  stamp_aborted = λ t cause _. fits-undo w t (event.Stamp t) (entries_of w.writes t);
  end = λ t _ _ h. tt;
  detect = fits-victim w (victim w);
}) e

pub fits_room : (p : Plan) (m n : Engine) (xs : List Entry) (e : Event) (r : Reply) → Replays p m xs → IsMachineStep e m n r
    → ((w : World) → StandsFor m w → IsSmall w r) → Fits (room_for (run (opening_of p 1) (history_events xs)) e) r
fits_room p m n xs e r h step small =
    let w : World = run (opening_of p 1) (history_events xs) in
    let is : r ≡ (outcome w e).reply = step.reply w h.ran.machine in
    let own : IsSmall w (outcome w e).reply = subst (IsSmall w) is (small w h.ran.machine) in
    subst (Fits (room_for w e)) (sym is) (fits-outcome w e own)
