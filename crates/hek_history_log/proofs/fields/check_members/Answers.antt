use Rattle.std.proofs.Common.{◌≡◌, ◌<◌, false, ℕ, List, [], map, length, get_or, sym, ap, subst, ◌∙◌, arith}
use Rattle.std.proofs.lemmas.Bool.{true≢false}
use Rattle.std.proofs.lemmas.List.{get_or-map, length-map}
use Rattle.std.proofs.lemmas.List.Elements.{All-get_or}
use Rattle.std.specs.Str.{bytes_eq}
use Rattle.hek_history_log.specs.MemberNames.{IsKnown}
use Rattle.hek_history_log.proofs.fields.check_members.Goals as goal

pub returns-then-is_among : goal.returns-then-is_among
returns-then-is_among c are =
    let place = c.loop-place.place in
    let member = c.index-members-place.result in
    let names : List (List ℕ) = map (λ m. m.0.now) c.args.members.now in
    let many : length names ≡ length c.args.members.now = length-map c.args.members.now (λ m. m.0.now) in
    let at : get_or names place [] ≡ member.0.now = get_or-map (λ m. m.0.now) c.args.members.now place member [] (omega arith) ∙ ap (λ m. m.0.now) (sym c.index-members-place.is) in
    let none : (k : ℕ) → k < place → k < length c.args.members.now → bytes_eq (get_or names k []) member.0.now ≡ false =
    λ k before within. subst (λ (n : List ℕ). bytes_eq (get_or names k []) n ≡ false) at (are.once k place [] before (omega arith)) in
    absurd (true≢false (sym c.if-is_among.true ∙ c.is_among.ensures none))

pub returns-then-not-starts_with : goal.returns-then-not-starts_with
returns-then-not-starts_with c are =
    let place = c.loop-place.place in
    let member = c.index-members-place.result in
    let names : List (List ℕ) = map (λ m. m.0.now) c.args.members.now in
    let many : length names ≡ length c.args.members.now = length-map c.args.members.now (λ m. m.0.now) in
    let at : get_or names place [] ≡ member.0.now = get_or-map (λ m. m.0.now) c.args.members.now place member [] (omega arith) ∙ ap (λ m. m.0.now) (sym c.index-members-place.is) in
    let known = subst (IsKnown c.args.known.now) at (All-get_or (IsKnown c.args.known.now) names place [] (omega arith) are.each) in
    absurd (true≢false (sym (c.is_known.ensures known) ∙ c.if-is_known.false))
