use Rattle.std.proofs.Common.{◌%◌, ◌<◌, ◌≤◌, ◌∙◌, ap, sym, subst, arith, mod-lt, length-set}
use Rattle.std.specs.Prelude.{Some, None}
use Rattle.std.proofs.lemmas.Map.Keys.{ge_from_not_lt}
use Rattle.hek_store.specs.Chained.{keys_of, next_links}
use Rattle.hek_store.specs.Living.{IsStart, is_gone}
use Rattle.hek_store.proofs.Restarted.{shown_links, shown_count, shown_within, start_of, start_for_reader, starts_passed, owns_passed}
use Rattle.hek_store.proofs.Started.{gone_later}
use Rattle.hek_store.proofs.store.Store.pass_over.Goals as goal

pub next_left-next-requires-clause-rising : goal.next_left-next-requires-clause-rising
next_left-next-requires-clause-rising c =
    let s = c.self.inside in
    shown_links s.slots s.versions.items s.next_of.items c.as_slice.result.now s.ends_of.items c.self.invariant.in_slots c.as_slice.ensures.value

pub next_left-next-requires-clause-within : goal.next_left-next-requires-clause-within
next_left-next-requires-clause-within c =
    let s = c.self.inside in
    let slot = c.slot_of-slot.result in
    let start = start_of s.slots slot (λ b. is_gone None s.passed) (is_gone None s.passed) s.versions.items s.starts.items c.index.result.now c.self.invariant.begun c.self.invariant.starts (subst (λ n. n < s.slots) (sym c.slot_of-slot.ensures) (mod-lt c.args.key c.self.invariant.any)) (λ x o. o) c.index.ensures in
    shown_within s.slots slot (is_gone None s.passed) c.index.result.now s.versions.items s.next_of.items c.as_slice.result.now s.ends_of.items c.self.invariant.in_slots c.as_slice.ensures.value start

pub next_left-next-requires-clause-paired : goal.next_left-next-requires-clause-paired
next_left-next-requires-clause-paired c =
    let s = c.self.inside in
    shown_count s.slots s.versions.items c.as_slice-2.result.now s.next_of.items c.as_slice.result.now s.ends_of.items c.self.invariant.in_slots
    c.as_slice.ensures.value c.as_slice-2.ensures.value

pub next_left-own_next-requires-clause-rising : goal.next_left-own_next-requires-clause-rising
next_left-own_next-requires-clause-rising c =
    let s = c.self.inside in
    shown_links s.slots s.versions.items s.next_of.items c.as_slice-3.result.now s.ends_of.items c.self.invariant.in_slots c.as_slice-3.ensures.value

pub next_left-own_next-requires-clause-within : goal.next_left-own_next-requires-clause-within
next_left-own_next-requires-clause-within c =
    let s = c.self.inside in
    let slot = c.slot_of-slot.result in
    let below : slot < s.slots = subst (λ n. n < s.slots) (sym c.slot_of-slot.ensures) (mod-lt c.args.key c.self.invariant.any) in
    let start = start_for_reader s.slots slot s.passed s.passed c.args.reader s.versions.items s.starts.items s.own_starts.items s.owners.items below (omega arith) c.self.invariant.starts c.self.invariant.own_starts in
    shown_within s.slots slot (is_gone (Some c.args.reader) s.passed) c.start_for-own.result s.versions.items s.next_of.items c.as_slice-3.result.now s.ends_of.items c.self.invariant.in_slots c.as_slice-3.ensures.value
    (subst (λ n. IsStart s.slots slot (is_gone (Some c.args.reader) s.passed) s.versions.items n) (sym c.start_for-own.ensures) start)

pub next_left-own_next-requires-clause-paired : goal.next_left-own_next-requires-clause-paired
next_left-own_next-requires-clause-paired c =
    let s = c.self.inside in
    shown_count s.slots s.versions.items c.as_slice-4.result.now s.next_of.items c.as_slice-3.result.now s.ends_of.items c.self.invariant.in_slots
    c.as_slice-3.ensures.value c.as_slice-4.ensures.value

pub invariant_of-self : goal.invariant_of-self
invariant_of-self c =
    let s = c.self.inside in
    let slot = c.slot_of-slot.result in
    let reader = c.args.reader in
    let below : slot < s.slots = subst (λ n. n < s.slots) (sym c.slot_of-slot.ensures) (mod-lt c.args.key c.self.invariant.any) in
    let later : s.passed ≤ c.args.time = ge_from_not_lt c.args.time s.passed (sym c.if-lt.ensures) in
    let start = start_of s.slots slot (λ b. is_gone None s.passed) (is_gone None c.args.time) s.versions.items s.starts.items c.index.result.now c.self.invariant.begun c.self.invariant.starts below (λ x o. gone_later None s.passed c.args.time x later o) c.index.ensures in
    let shown = c.as_slice-2.ensures.value in
    let next : IsStart s.slots slot (is_gone None c.args.time) s.versions.items c.next_left-next.result =
    subst (λ vs. IsStart s.slots slot (is_gone None c.args.time) vs c.next_left-next.result) shown
    (c.next_left-next.ensures s.slots slot (c.as_slice.ensures.value ∙ c.self.invariant.in_slots.linked ∙ ap (λ vs. next_links (λ k. k % s.slots) 0 (keys_of vs)) (sym shown))
    (subst (λ vs. IsStart s.slots slot (is_gone None c.args.time) vs c.index.result.now) (sym shown) start)) in
    let own_start : IsStart s.slots slot (is_gone (Some reader) c.args.time) s.versions.items c.start_for-own.result =
    subst (λ n. IsStart s.slots slot (is_gone (Some reader) c.args.time) s.versions.items n) (sym c.start_for-own.ensures)
    (start_for_reader s.slots slot s.passed c.args.time reader s.versions.items s.starts.items s.own_starts.items s.owners.items below later c.self.invariant.starts c.self.invariant.own_starts) in
    let own_shown = c.as_slice-4.ensures.value in
    let own_next : IsStart s.slots slot (is_gone (Some reader) c.args.time) s.versions.items c.next_left-own_next.result =
    subst (λ vs. IsStart s.slots slot (is_gone (Some reader) c.args.time) vs c.next_left-own_next.result) own_shown
    (c.next_left-own_next.ensures s.slots slot (c.as_slice-3.ensures.value ∙ c.self.invariant.in_slots.linked ∙ ap (λ vs. next_links (λ k. k % s.slots) 0 (keys_of vs)) (sym own_shown))
    (subst (λ vs. IsStart s.slots slot (is_gone (Some reader) c.args.time) vs c.start_for-own.result) (sym own_shown) own_start)) in
    record {
      some = c.self.invariant.some;
      in_buckets = c.self.invariant.in_buckets;
      any = c.self.invariant.any;
      in_slots = c.self.invariant.in_slots;
      roomy = c.self.invariant.roomy;
      roomy_in = c.self.invariant.roomy_in;
      roomy_of = c.self.invariant.roomy_of;
      few = c.self.invariant.few;
      begun = length-set s.starts.items slot c.next_left-next.result ∙ c.self.invariant.begun;
      starts = starts_passed s.slots slot s.passed c.args.time s.versions.items s.starts.items c.next_left-next.result c.self.invariant.begun below later c.self.invariant.starts next;
      own_begun = length-set s.own_starts.items slot c.next_left-own_next.result ∙ c.self.invariant.own_begun;
      owned = length-set s.owners.items slot reader ∙ c.self.invariant.owned;
      own_starts = owns_passed s.slots slot s.passed c.args.time reader s.versions.items s.own_starts.items s.owners.items c.next_left-own_next.result c.self.invariant.own_begun c.self.invariant.owned below later c.self.invariant.own_starts own_next;
    }
