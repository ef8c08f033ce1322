use Rattle.std.proofs.Common.{◌<◌, ◌≤◌, refl, sym, subst, arith, mod-lt}
use Rattle.std.specs.Prelude.{Some}
use Rattle.std.proofs.lemmas.Map.Keys.{ge_from_not_lt}
use Rattle.hek_store.specs.Living.{IsLiving, IsStart, is_gone}
use Rattle.hek_store.specs.Places.{left, key_versions_left}
use Rattle.hek_store.proofs.Restarted.{shown_links, shown_count, shown_within, shown_living, start_for_reader}
use Rattle.hek_store.proofs.Started.{living_all}
use Rattle.hek_store.proofs.store.Store.living_of.Goals as goal

pub returns-then-lt : goal.returns-then-lt
returns-then-lt c = living_all c.args.self.now.versions c.args.key (is_gone (Some c.args.reader) c.args.time) (key_versions_left c.versions_of.result) c.versions_of.ensures

pub invariant_of-result : goal.invariant_of-result
invariant_of-result c =
    let s = c.self.inside in
    let slot = c.slot_of-slot.result in
    let below : slot < s.slots = subst (λ n. n < s.slots) (sym c.slot_of-slot.ensures) (mod-lt c.args.key c.self.invariant.any) in
    let start : IsStart s.slots slot (is_gone (Some c.args.reader) s.passed) s.versions.items c.start_for.result =
    subst (λ n. IsStart s.slots slot (is_gone (Some c.args.reader) s.passed) s.versions.items n) (sym c.start_for.ensures)
    (start_for_reader s.slots slot s.passed s.passed c.args.reader s.versions.items s.starts.items s.own_starts.items s.owners.items below (omega arith) c.self.invariant.starts c.self.invariant.own_starts) in
    record {
      rising = shown_links s.slots s.versions.items s.next_of.items c.as_slice.result.now s.ends_of.items c.self.invariant.in_slots c.as_slice.ensures.value;
      within = shown_within s.slots slot (is_gone (Some c.args.reader) s.passed) c.start_for.result s.versions.items s.next_of.items c.as_slice.result.now s.ends_of.items c.self.invariant.in_slots c.as_slice.ensures.value start;
      paired = shown_count s.slots s.versions.items c.as_slice-2.result.now s.next_of.items c.as_slice.result.now s.ends_of.items c.self.invariant.in_slots c.as_slice.ensures.value c.as_slice-2.ensures.value;
    }

pub returns : goal.returns
returns c =
    let s = c.self.inside in
    let slot = c.slot_of-slot.result in
    let below : slot < s.slots = subst (λ n. n < s.slots) (sym c.slot_of-slot.ensures) (mod-lt c.args.key c.self.invariant.any) in
    let later : s.passed ≤ c.args.time = ge_from_not_lt c.args.time s.passed (sym c.if-lt.ensures) in
    let start : IsStart s.slots slot (is_gone (Some c.args.reader) c.args.time) s.versions.items c.start_for.result =
    subst (λ n. IsStart s.slots slot (is_gone (Some c.args.reader) c.args.time) s.versions.items n) (sym c.start_for.ensures)
    (start_for_reader s.slots slot s.passed c.args.time c.args.reader s.versions.items s.starts.items s.own_starts.items s.owners.items below later c.self.invariant.starts c.self.invariant.own_starts) in
    let listed = left c.as_slice-2.result.now c.args.key c.as_slice.result.now c.start_for.result in
    subst (λ x. IsLiving x.versions c.args.key (is_gone (Some c.args.reader) c.args.time) listed) c.self.view_is
    (shown_living s.slots c.args.key (is_gone (Some c.args.reader) c.args.time) c.start_for.result s.versions.items c.as_slice-2.result.now s.next_of.items c.as_slice.result.now s.ends_of.items listed
    c.self.invariant.in_slots c.as_slice.ensures.value c.as_slice-2.ensures.value
    (subst (λ n. IsStart s.slots n (is_gone (Some c.args.reader) c.args.time) s.versions.items c.start_for.result) c.slot_of-slot.ensures start) refl)
