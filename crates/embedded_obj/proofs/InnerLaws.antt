-- The message that an attachment holds, as it was looked for.
use Rattle.std.proofs.Common.{◌≡◌, ◌∙◌, ℕ, List, Option, None, Some, sym, ap, subst}
use Rattle.std.specs.Prelude.{MatchOption}
use Rattle.pst_base.specs.Flat.{Flat}
use Rattle.pst_base.specs.declared.subs.Sub.{Sub}
use Rattle.node_values.specs.Subnodes.{contents, subnode}
use Rattle.mapi_values.specs.Messages.{Mes}
use Rattle.mapi_values.specs.declared.part.Part.{Part}
use Rattle.mail_objects.specs.Objects.{ShowsMail}
use Rattle.embedded_obj.specs.Embedding.{IsInner, embedded_in, placeless}

-- the attachment names a subnode that is there, and what was read of it is what the attachment holds
pub was-read : (part : Part) (id : ℕ) (sub : Sub) (found : Option Mes) → Some id ≡ embedded_in part.props → Some (contents sub) ≡ subnode part.kept id
    → MatchOption found ((m : Mes) → ShowsMail id (placeless sub.blocks sub.subs) m → ⊥) (ShowsMail id (placeless sub.blocks sub.subs)) → IsInner part found
was-read part id sub None named there none = λ m held.
    let same : Some id ≡ Some held.id = named ∙ held.named in
    let is : id ≡ held.id = cc in
    let both : Some (contents sub) ≡ Some held.sub = there ∙ ap (subnode part.kept) is ∙ held.there in
    let found : held.sub ≡ contents sub = cc in
    none m
    (subst (λ (n : ℕ). ShowsMail n (placeless sub.blocks sub.subs) m) (sym is)
    (subst (λ (s : List (List ℕ) × List Flat). ShowsMail held.id (placeless s.0 s.1) m) found held.shows))
was-read part id sub (Some m) named there shows = record { id = id; named = sym named; sub = contents sub; there = sym there; shows = shows }
