use Rattle.std.proofs.Common.{ap, ◌∙◌, rules, length, slice_index_or}
use Rattle.std.specs.Prelude.{Some, None}
use Rattle.std.proofs.lemmas.List.{length-map}
use Rattle.hek_store.specs.Living.{is_gone}
use Rattle.hek_store.proofs.Restarted.{starts_fresh}
use Rattle.hek_store.proofs.store.Store.reserve.Goals as goal

pub invariant_of-self-2 : goal.invariant_of-self-2
invariant_of-self-2 c =
    let spread = c.in_ok-spread.spread in
    record {
      some = search rules;
      in_buckets = search rules;
      any = search rules;
      in_slots = search rules;
      roomy = search rules;
      roomy_in = search rules;
      roomy_of = search rules;
      few = search rules;
      begun = ap length c.in_ok-spread.ensures.starts ∙ length-map spread.ends.items (λ e. e.first) ∙ c.in_ok-spread.ensures.chained.count;
      starts = starts_fresh spread.slots (λ b. is_gone None c.self.inside.passed) c.reserve.new.self.items spread.links.items spread.starts.items spread.ends.items c.in_ok-spread.ensures.chained c.in_ok-spread.ensures.starts;
      own_begun = ap length (c.in_ok-spread.ensures.own_starts ∙ c.in_ok-spread.ensures.starts) ∙ length-map spread.ends.items (λ e. e.first) ∙ c.in_ok-spread.ensures.chained.count;
      owned = c.in_ok-spread.ensures.owners;
      own_starts = starts_fresh spread.slots (λ b. is_gone (Some (slice_index_or spread.owners.items b 0)) c.self.inside.passed) c.reserve.new.self.items spread.links.items spread.own_starts.items spread.ends.items c.in_ok-spread.ensures.chained
          (c.in_ok-spread.ensures.own_starts ∙ c.in_ok-spread.ensures.starts);
    }
