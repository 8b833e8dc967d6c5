use Rattle.std.proofs.Common.{◌∙◌, inl, inr, refl, sym, ap, arith}
use Rattle.store_session.proofs.mail_draft_laws.Looking.{untouched_same}
use Rattle.pinned_session.proofs.MakeLaws.{full_of, pins_made, sitting_back, taken_back}
use Rattle.pinned_session.proofs.PinLaws.{has_mapped}
use Rattle.pinned_session.proofs.pinning.make_pin.Goals as goal

pub returns-in-Ok-pin : goal.returns-in-Ok-pin
returns-in-Ok-pin g c = λ v found tidy S h.
    let world = g.W.Outside.view v in
    let made = c.in-Ok-pin.ensures in
    let view = c.in-Ok-view_of.view in
    let s = h.store.stores.tree.shown in
    pins_made S h (λ store. has_mapped tidy S.now (λ N held. made.stays v N held) made.last (untouched_same world) store) made.room.found view c.in-Ok-pin._number c.in-Some.number c.push.new.self.items c.in-Ok.text
    (λ q N told. made.others v q N told) made.adds (c.in-Some.ensures).1 c.in-Ok-push.ensures.items c.in-Ok-view_of.ensures.number
    (record {
      shown = record { nodes = s.nodes; held = made.pinned v s.nodes s.held; at = s.at; counters = s.counters ∙ sym (ap (λ k. k.last) c.in-Ok-view_of.ensures.counts ∙ c.counts-counts.ensures) };
      knows = c.in-Ok-view_of.ensures.known S.now.tree h.store.stores.tree.knows;
      searches = c.in-Ok-view_of.ensures.searches S.now h.store.stores.searches;
      whole = h.store.order.whole;
      are = h.store.order.searches;
    })
    c.in-Ok.ensures

pub returns-in-Memory : goal.returns-in-Memory
returns-in-Memory g c = λ v found tidy S h.
    let made = c.in-Err.ensures in
    let grown = c.in-Ok-push.ensures.items in
    let popped = c.pop-taken_back.ensures in
    let some = popped.variant.1 (omega (arith, c.in-Ok-push.ensures.len)) in
    inr (inr (
      refl,
      sitting_back S h (λ store. has_mapped tidy S.now (λ N held. made.stays v N held) made.last (untouched_same (g.W.Outside.view v)) store) made.room.found c.pop-taken_back.new.self.items
          (taken_back c.args.pinned.now.pins.items c.pop-taken_back.new.self.items c.in-Ok-view_of.view c.pop-taken_back.result some (sym grown ∙ popped.items)) (λ q N told. made.others v q N told) made.none,
    ))

pub returns : goal.returns
returns g c = λ v found tidy S h.
    let made = c.in-Err.ensures in
    let grown = c.in-Ok-push.ensures.items in
    let popped = c.pop-taken_back.ensures in
    let some = popped.variant.1 (omega (arith, c.in-Ok-push.ensures.len)) in
    let back = sitting_back S h (λ store. has_mapped tidy S.now (λ N held. made.stays v N held) made.last (untouched_same (g.W.Outside.view v)) store) made.room.found c.pop-taken_back.new.self.items
    (taken_back c.args.pinned.now.pins.items c.pop-taken_back.new.self.items c.in-Ok-view_of.view c.pop-taken_back.result some (sym grown ∙ popped.items)) (λ q N told. made.others v q N told) made.none in
    elim c.pin_spoken-in-Refused.ensures [
      | inl is ↦ inr (inl (full_of S _ h.pins (rw c.in-Refused.is at made.full), is, back))
      | inr is ↦ inr (inr (is, back))
    ]
