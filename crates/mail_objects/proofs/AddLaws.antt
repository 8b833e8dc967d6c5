-- Subnodes of attachments, put at the end one after the other.
use Rattle.std.proofs.Common.{◌≡◌, ◌∙◌, ℕ, ◌+◌, ◌<◌, ◌≤◌, List, [], ◌∷◌, ◌++◌, length, get_or, drop, sym, ap, subst, append_assoc}
use Rattle.std.proofs.lemmas.List.{append-nil, drop_all, drop_more}
use Rattle.pst_base.specs.declared.subs.Sub.{Sub}
use Rattle.mapi_values.specs.declared.part.Part.{Part}
use Rattle.mail_objects.specs.Writing.{AddsParts, AreParts, IsPart}

-- with the subnodes of the other attachments, those so far are all
abbrev pub AddsRest : List Sub → List Part → List Part → List Sub → Type 0
AddsRest old parts others new = (more : List Sub) → AreParts others more → AddsParts old parts (new ++ more)

pub adds-more : (old : List Sub) (parts : List Part) (i : ℕ) (new : List Sub) (part : Part) (sub : Sub) → i < length parts → part ≡ get_or parts i part → IsPart part sub
    → AddsRest old parts (drop i parts) new → AddsRest old parts (drop (i + 1) parts) (new ++ sub ∷ [])
adds-more old parts i new part sub lt is shows so_far = λ more rest.
    let front : drop i parts ≡ part ∷ drop (i + 1) parts = drop_more parts i part lt ∙ ap (λ (p : Part). p ∷ drop (i + 1) parts) (sym is) in
    subst (λ (ss : List Sub). AddsParts old parts ss) (sym (append_assoc new (sub ∷ []) more))
    (so_far (sub ∷ more) (subst (λ (ps : List Part). AreParts ps (sub ∷ more)) (sym front) (shows, rest)))

pub adds-all : (old : List Sub) (parts : List Part) (i : ℕ) (new : List Sub) → length parts ≤ i → AddsRest old parts (drop i parts) new → AddsParts old parts new
adds-all old parts i new le so_far =
    subst (λ (ss : List Sub). AddsParts old parts ss) (append-nil new)
    (so_far [] (subst (λ (ps : List Part). AreParts ps []) (sym (drop_all i parts le)) tt))
