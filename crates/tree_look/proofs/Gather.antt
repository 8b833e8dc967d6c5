-- Objects at listed ids, gathered.
use Rattle.std.proofs.Common.{◌≡◌, inl, inr, ⊎_elim, ◌∙◌, ℕ, cond, List, [], ◌∷◌, None, Some, IsSome, refl, sym, subst, ap}
use Rattle.std.proofs.lemmas.Bool.{cases_eq, eq-eqb, ne_eqb}
use Rattle.std.proofs.lemmas.Option.{none-some, same_Some}
use Rattle.std.specs.Cmp.{nat_cmp_total, unsigned_tied}
use Rattle.std.specs.Ordering.{nat_cmp}
use Rattle.std.specs.FinMap as map
use Rattle.mail_objects.specs.declared.object.Object.{Object}
use Rattle.mail_tree.specs.Tree.{Objects}
use Rattle.node_port.specs.Nodes.{Nodes, node_at, get-set_at, set_at}
use Rattle.tree_look.proofs.Ids.{IsIn}

-- all objects at these ids, of which each is so, and the other nodes
pub record Gathered (N : Nodes) (P : ℕ → Object → Type 0) (ids : List ℕ) : Type 0 where
  pub objects : Objects
  pub others : Nodes
  pub is : (q : ℕ) (o : Object) → map.get objects q ≡ Some o → P q o × IsIn q ids × (node_at others q ≡ None)
  pub not : (q : ℕ) → map.get objects q ≡ None → node_at others q ≡ node_at N q
  pub all : (q : ℕ) → IsIn q ids → IsSome (map.get objects q)

-- the object at an id after one was put at k, and what is left beside
at_key : (O : Objects) (k q : ℕ) (x : Object) → q ≡ k → map.get (map.insert O k x) q ≡ Some x
at_key O k q x e = map.get-insert nat_cmp_total O k x q ∙ ap (λ b. cond b (Some x) (map.get O q)) (unsigned_tied q k ∙ eq-eqb q k e)

at_other : (O : Objects) (k q : ℕ) (x : Object) → (q ≡ k → ⊥) → map.get (map.insert O k x) q ≡ map.get O q
at_other O k q x other = map.get-insert nat_cmp_total O k x q ∙ ap (λ b. cond b (Some x) (map.get O q)) (unsigned_tied q k ∙ ne_eqb q k other)

left_key : (N : Nodes) (k q : ℕ) → q ≡ k → node_at (set_at N k None) q ≡ None
left_key N k q e = get-set_at N k None q ∙ ap (λ b. cond b None (node_at N q)) (unsigned_tied q k ∙ eq-eqb q k e)

left_other : (N : Nodes) (k q : ℕ) → (q ≡ k → ⊥) → node_at (set_at N k None) q ≡ node_at N q
left_other N k q other = get-set_at N k None q ∙ ap (λ b. cond b None (node_at N q)) (unsigned_tied q k ∙ ne_eqb q k other)

pub gather : (N : Nodes) (P : ℕ → Object → Type 0) (ids : List ℕ) → ((q : ℕ) → IsIn q ids → (o : Object) × P q o) → Gathered N P ids
gather N P [] at = record { objects = map.empty; others = N; is = λ q o e. absurd (none-some o (sym (map.get-empty nat_cmp q) ∙ e)); not = λ q e. refl; all = λ q never. absurd never }
gather N P (k ∷ ks) at =
    let rest = gather N P ks (λ q h. at q (inr h)) in
    let here = at k (inl refl) in
    record {
      objects = map.insert rest.objects k here.0;
      others = set_at rest.others k None;
      is = λ q o e. elim (cases_eq q k) [
        | inl same ↦ (subst (λ j. P j o) (sym same) (subst (P k) (same_Some here.0 o (sym (at_key rest.objects k q here.0 same) ∙ e)) here.1), inl same, left_key rest.others k q same)
        | inr other ↦ let was = rest.is q o (sym (at_other rest.objects k q here.0 other) ∙ e) in (was.0, inr was.1, left_other rest.others k q other ∙ was.2)
      ];
      not = λ q e. elim (cases_eq q k) [
        | inl same ↦ absurd (none-some here.0 (sym e ∙ at_key rest.objects k q here.0 same))
        | inr other ↦ left_other rest.others k q other ∙ rest.not q (sym (at_other rest.objects k q here.0 other) ∙ e)
      ];
      all = λ q h. elim (cases_eq q k) [
        | inl same ↦ subst IsSome (sym (at_key rest.objects k q here.0 same)) refl
        | inr other ↦ subst IsSome (sym (at_other rest.objects k q here.0 other)) (rest.all q (⊎_elim (λ e. absurd (other e)) (λ h. h) h))
      ];
    }
