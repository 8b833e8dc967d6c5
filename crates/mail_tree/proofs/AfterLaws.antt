-- What stands at an id after changes.
use Rattle.std.proofs.Common.{◌≡◌, ◌∙◌, ℕ, Bool, true, false, cond, List, [], ◌∷◌, Option, None, Some, is_some, refl, ap}
use Rattle.std.specs.Ordering.{nat_cmp, eq_by_cmp}
use Rattle.std.specs.Cmp.{nat_cmp_total}
use Rattle.std.specs.FinMap as map
use Rattle.mail_objects.specs.declared.object.Object.{Object}
use Rattle.node_port.specs.Nodes.{Nodes, node_at, get-set_at}
use Rattle.node_port.specs.declared.node.NodeRec.{NodeRec}
use Rattle.mail_tree.specs.Tree.{Objects}
use Rattle.mail_tree.specs.Changing.{newest}
use Rattle.mail_tree.specs.Step.{set_object, with_changes, without_changed}

-- a change is seen at its id, and nowhere else
pub get-set_object : (objects : Objects) (k : ℕ) (object : Option Object) (q : ℕ)
    → map.get (set_object objects k object) q ≡ cond (eq_by_cmp nat_cmp q k) object (map.get objects q)
get-set_object objects k None q = map.get-remove nat_cmp_total objects k q
get-set_object objects k (Some object) q = map.get-insert nat_cmp_total objects k object q

first-is-newest : (b : Bool) (object old : Option Object) (found : Option (Option Object)) → cond b object (newest found old) ≡ newest (cond b (Some object) found) old
first-is-newest true object old found = refl
first-is-newest false object old found = refl

-- the first change of an id counts
pub get-with_changes : (cs : List (ℕ × Option Object)) (objects : Objects) (q : ℕ)
    → map.get (with_changes cs objects) q ≡ newest (map.find nat_cmp q cs) (map.get objects q)
get-with_changes [] objects q = refl
get-with_changes (c ∷ cs) objects q =
    get-set_object (with_changes cs objects) c.0 c.1 q
    ∙ ap (λ (old : Option Object). cond (eq_by_cmp nat_cmp q c.0) c.1 old) (get-with_changes cs objects q)
    ∙ first-is-newest (eq_by_cmp nat_cmp q c.0) c.1 (map.get objects q) (map.find nat_cmp q cs)

none-where-found : (b : Bool) (object : Option Object) (found : Option (Option Object)) (other : Option NodeRec)
    → cond b None (cond (is_some found) None other) ≡ cond (is_some (cond b (Some object) found)) None other
none-where-found true object found other = refl
none-where-found false object found other = refl

-- no other node stands where something changed
pub get-without_changed : (cs : List (ℕ × Option Object)) (others : Nodes) (q : ℕ)
    → node_at (without_changed cs others) q ≡ cond (is_some (map.find nat_cmp q cs)) None (node_at others q)
get-without_changed [] others q = refl
get-without_changed (c ∷ cs) others q =
    get-set_at (without_changed cs others) c.0 None q
    ∙ ap (λ (other : Option NodeRec). cond (eq_by_cmp nat_cmp q c.0) None other) (get-without_changed cs others q)
    ∙ none-where-found (eq_by_cmp nat_cmp q c.0) c.1 (map.find nat_cmp q cs) (node_at others q)
