use Rattle.std.proofs.Common.{◌≡◌, ◌∙◌, inl, inr, sym, ap, subst}
use Rattle.store_session.proofs.mail_draft_laws.Looking.{untouched_same}
use Rattle.node_port.specs.Pins.{without_pin}
use Rattle.pinned_session.specs.Run.{unpinned_text}
use Rattle.pinned_session.specs.Sits.{Sits}
use Rattle.pinned_session.proofs.MakeLaws.{gives_up, named_none, named_some, place_found}
use Rattle.pinned_session.proofs.PinLaws.{has_mapped}
use Rattle.pinned_session.proofs.pinning.give_up.Goals as goal

pub returns-in_default : goal.returns-in_default
returns-in_default g c = λ v found tidy S h.
    let n = named_none _ S c.args.pinned.now.pins.items c.args.pin h.views (place_found c.as_slice.result.now c.args.pinned.now.pins.items c.args.pin _ _ c.place_of.ensures c.as_slice.ensures.value c.in_default.is) in
    elim c.pin_spoken.ensures [
      | inl is ↦ inl (is ∙ ap unpinned_text (sym n.0), subst (λ Z. Sits g.W.Outside.view g.K.NodeReader.holds g.K.NodeReader.last g.K.NodeReader.pinned g.K.NodeReader.room g.K.Keeper.rests c.args.pinned.now v found tidy Z) (sym n.1) h)
      | inr is ↦ inr (is, h)
    ]

pub returns : goal.returns
returns g c = λ v found tidy S h.
    let gone = c.unpin-was_open.ensures in
    let at = named_some _ S c.args.pinned.now.pins.items c.remove-view.result c.args.pin c.in-Some.place h.views (place_found c.as_slice.result.now c.args.pinned.now.pins.items c.args.pin _ _ c.place_of.ensures c.as_slice.ensures.value c.in-Some.is) in
    let number = ap (λ x. x.number) c.remove-view.ensures.value ∙ at.2.3 in
    gives_up S h (λ store. has_mapped tidy S.now (λ N held. gone.stays v N held) gone.last (untouched_same (g.W.Outside.view v)) store) gone.found c.args.pin at.0 c.in-Some.place c.remove-view.result c.remove-view.new.self.items c.in-Ok.text at.1 at.2 c.remove-view.ensures.items
    (λ q N other told. gone.others v q N (λ is. other (is ∙ number)) told) (subst (λ n. (g.K.NodeReader.room c.unpin-was_open.new.self).pins ≡ without_pin n (g.K.NodeReader.room c.args.pinned.now.store.store.keeper).pins) number gone.pins) c.in-Ok.ensures
