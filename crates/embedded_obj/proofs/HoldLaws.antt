-- Attachments in which a message was laid, and those whose message was put anew.
use Rattle.std.proofs.Common.{◌≡◌, ◌∙◌, ℕ, ◌+◌, ◌-◌, ◌==◌, ◌&&◌, false, List, [], ◌∷◌, ◌++◌, map, None, Some, refl, sym, ap, subst, inl, inr, append_assoc, arith}
use Rattle.std.proofs.lemmas.Bool.{cases_Bool, eq-eqb, ne_eqb}
use Rattle.std.proofs.lemmas.List.{append-nil}
use Rattle.pst_base.specs.Flat.{Flat}
use Rattle.pst_base.specs.Subs.{flattened, one_deeper}
use Rattle.pst_base.specs.declared.ids.Nid.{Nid}
use Rattle.pst_base.specs.declared.subs.Sub.{Sub}
use Rattle.mapi_values.specs.Messages.{Mes}
use Rattle.mapi_values.specs.declared.part.Part.{Part}
use Rattle.node_values.specs.Subnodes.{below, contents, one_up, subnode}
use Rattle.node_values.proofs.SubLaws.{subnode-first}
use Rattle.command_text.specs.declared.command.Held.TheVariants.{Message}
use Rattle.mail_objects.specs.Objects.{ShowsMail}
use Rattle.mail_tree.specs.Parts.{behind, new_part, part_holding, with_subnode}
use Rattle.embedded_obj.specs.Embedding.{EMBEDDED, IsLaid, ShowsInner, placeless}
use Rattle.embedded_obj.proofs.NameLaws.{named-laid}

deeper : (n : ℕ) → (n + 1 == 0) ≡ false
deeper n = ne_eqb (n + 1) 0 (λ e. omega arith)

up-deeper : (f : Flat) → one_up (one_deeper f) ≡ f
up-deeper f = let n : (f.level + 1) - 1 ≡ f.level = omega arith in ap (λ (l : ℕ). let g : Flat = record { level = l; nid = f.nid; blocks = f.blocks } in g) n

-- what stands below comes up again
below-deeper : (fs gs : List Flat) → below (map one_deeper fs ++ gs) ≡ fs ++ below gs
below-deeper [] gs = refl
below-deeper (f ∷ fs) gs = rw (deeper f.level) (ap (λ (g : Flat). g ∷ below (map one_deeper fs ++ gs)) (up-deeper f) ∙ ap (λ (hs : List Flat). f ∷ hs) (below-deeper fs gs))

-- nothing stands below what is behind
below-behind : (fs : List Flat) → below (behind fs) ≡ []
below-behind [] = refl
below-behind (f ∷ fs) = elim (cases_Bool (f.level == 0)) [ inl t ↦ rw (t, t) refl | inr e ↦ rw e (below-behind fs) ]

-- a subnode that others follow is found by its id
laid-found : (node : Sub) (fs : List Flat) → below fs ≡ [] → subnode (flattened (node ∷ []) ++ fs) node.nid.bits ≡ Some (contents node)
laid-found node fs none =
    let all : below ((map one_deeper node.subs ++ []) ++ fs) ≡ node.subs =
    ap below (append_assoc (map one_deeper node.subs) [] fs) ∙ below-deeper node.subs fs ∙ ap (λ (gs : List Flat). node.subs ++ gs) none ∙ append-nil node.subs in
    rw (eq-eqb node.nid.bits node.nid.bits refl) (ap (λ (gs : List Flat). Some (node.blocks, gs)) all)

-- what was put in place of the subnode of its id is found by that
put-found : (node : Sub) (fs : List Flat) (sub : List (List ℕ) × List Flat) → subnode fs node.nid.bits ≡ Some sub → subnode (with_subnode node fs) node.nid.bits ≡ Some (contents node)
put-found node [] sub there = absurd (let e : None ≡ Some sub = there in cc)
put-found node (f ∷ fs) sub there = elim (cases_Bool ((f.level == 0) && (f.nid == node.nid.bits))) [
  | inl t ↦ rw t (laid-found node (behind fs) (below-behind fs))
  | inr e ↦ rw (e, e) (put-found node fs sub (rw e at there))
]

-- a new attachment holds the message that was laid out for it
pub laid-held : (node : Sub) (m : Mes) → node.nid.bits ≡ EMBEDDED → IsLaid node m → (n : Nid) (name : List ℕ) (bytes : ℕ) → ShowsInner (new_part n name (Message bytes node)) m
laid-held node m is laid n name bytes = record {
  id = EMBEDDED;
  named = named-laid name bytes node is;
  sub = contents node;
  there = ap (subnode (flattened (node ∷ []))) (sym is) ∙ subnode-first node.nid.bits node [] ∙ rw (eq-eqb node.nid.bits node.nid.bits refl) refl;
  shows = subst (λ (id : ℕ). ShowsMail id (placeless node.blocks node.subs) m) is laid;
}

-- an attachment with a message holds the one that was put in its place
pub put-held : (part : Part) (old new : Mes) (node : Sub) → ShowsInner part old → node.nid.bits ≡ old.nid → IsLaid node new → ShowsInner (part_holding node part) new
put-held part old new node held is laid =
    let same : node.nid.bits ≡ held.id = is ∙ held.shows.message.id in
    record {
      id = held.id;
      named = held.named;
      sub = contents node;
      there = ap (subnode (with_subnode node part.kept)) (sym same) ∙ put-found node part.kept held.sub (ap (subnode part.kept) same ∙ held.there);
      shows = subst (λ (id : ℕ). ShowsMail id (placeless node.blocks node.subs) new) same laid;
    }
