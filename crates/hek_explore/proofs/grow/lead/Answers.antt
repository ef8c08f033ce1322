use Rattle.std.proofs.Common.{rules, List, ℕ, length, subst, sym, ◌∙◌, ap, ◌≡◌}
use Rattle.hek_worker.specs.declared.entry.Entry.{Entry}
use Rattle.hek_worker.specs.Kept.{Kept}
use Rattle.hek_permute.specs.declared.play.Place.{Place}
use Rattle.hek_explore.specs.Codes.{code_of}
use Rattle.hek_explore.specs.Counts.{IsReplayed}
use Rattle.hek_explore.specs.Steps.{LeadsBy}
use Rattle.hek_explore.proofs.Classes.{grown-leads}
use Rattle.hek_explore.proofs.grow.lead.Goals as goal

pub returns : goal.returns
returns c =
    let now : List Entry = c.move_in.new.book.history in
    let at : c.in_ok-places.places.items ≡ c.args.places.now = search rules in
    let played : IsReplayed c.args.schedule.now c.args.form c.args.moves.now c.args.class.now c.in_ok-book.book.plan c.in_ok-places.places.items c.in_ok-book.book.history =
    subst (λ (b : Kept). IsReplayed c.args.schedule.now c.args.form c.args.moves.now c.args.class.now b.plan c.in_ok-places.places.items b.history) (sym c.in_ok-book.ensures)
    (subst (λ (l : List Place). IsReplayed c.args.schedule.now c.args.form c.args.moves.now c.args.class.now c.args.book.now.plan l c.args.book.now.history) (sym at) c.requires.played) in
    let h : LeadsBy c.args.schedule.now c.args.form c.args.moves.now c.args.mover c.args.class.now.key c.in_ok-key.key (length now) =
    grown-leads c.args.schedule.now c.in_ok-book.book.plan c.move_in.new.book.plan c.args.form c.args.moves.now c.args.class.now c.args.mover c.in_ok-places.places.items
    c.move_in.new.places.items c.in_ok-book.book.history now c.into_parts-machine.result.0 c.in_ok-key.key c.requires.are played c.in_ok-move_in.ensures.plan
    c.in_ok-move_in.ensures.moved
    (c.in_ok-key.ensures ∙ ap (λ (places : List Place). code_of c.move_in.new.book.plan places now) c.as_slice.ensures.value) c.into_parts-machine.ensures.replays in
    let events : c.len.result ≡ length now = search rules in
    subst (λ (n : ℕ). LeadsBy c.args.schedule.now c.args.form c.args.moves.now c.args.mover c.args.class.now.key c.in_ok-key.key n) (sym events) h
