use Rattle.std.proofs.Common.{◌≡◌, ◌∙◌, ℕ, ap, refl, subst, sym}
use Rattle.mapi_values.specs.Messages.{Mes}
use Rattle.pst_base.specs.declared.ids.Nid.{Nid}
use Rattle.embedded_obj.specs.Embedding.{IsLaid, embedded}
use Rattle.embedded_obj.proofs.HoldLaws.{put-held}
use Rattle.mail_embedding.proofs.putting.replaced.Goals as goal

pub returns : goal.returns
returns c = λ part old held id folder.
    let mail = c.args.mail in let node = c.in_ok-node.node in
    let named : node.nid.bits ≡ mail.nid = ap (λ (n : Nid). n.bits) c.in_ok-node.ensures.id ∙ ap (λ (m : Mes). m.nid) (c.behind-mail.view_is ∙ c.message.ensures.message) in
    let own = ap (λ (m : Mes). m.nid) (c.behind-mail.view_is ∙ c.message.ensures.message) in
    let nowhere : mail.folder ≡ 0 = folder ∙ held.shows.message.folder in
    let same : embedded c.behind-mail.inside.nid.bits mail ≡ mail = ap (λ (n : ℕ). embedded n mail) own ∙ ap (λ (f : ℕ). record mail { folder = f }) (sym nowhere) in
    record {
      node = node;
      place = named;
      holds = put-held part old mail node held (named ∙ id) (subst (IsLaid node) same c.in_ok-node.ensures.laid);
      is = refl;
    }
