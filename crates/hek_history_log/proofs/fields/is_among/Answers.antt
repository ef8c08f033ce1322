use Rattle.std.proofs.Common.{◌≡◌, false, ℕ, List, [], map, get_or, sym, ap, subst, ◌∙◌, arith}
use Rattle.std.proofs.lemmas.List.{get_or-map}
use Rattle.std.specs.Str.{bytes_eq}
use Rattle.hek_history_log.proofs.fields.is_among.Goals as goal

pub returns-then-eq : goal.returns-then-eq
returns-then-eq c none =
    let place = c.loop-place.place in
    let member = c.index-members-place.result in
    let at : get_or (map (λ m. m.0.now) c.args.members.now) place [] ≡ member.0.now = get_or-map (λ m. m.0.now) c.args.members.now place member [] (omega arith) ∙ ap (λ m. m.0.now) (sym c.index-members-place.is) in
    let other : bytes_eq member.0.now c.args.name.now ≡ false = subst (λ (n : List ℕ). bytes_eq n c.args.name.now ≡ false) at (none place (omega arith) (omega arith)) in
    sym c.if-eq.true ∙ c.eq.ensures ∙ other
