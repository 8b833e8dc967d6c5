-- A fault excludes every tree.
use Rattle.std.proofs.Common.{◌≡◌, ◌⊎◌, inl, inr, ⊎_elim, ◌∙◌, ℕ, zero, suc, ◌%◌, true, List, None, Some, Result, Ok, Err, IfErr, arith, refl, sym, subst, ap}
use Rattle.std.proofs.lemmas.Option.{none-some, same_Some}
use Rattle.mail_objects.specs.declared.message.fault.MessageFault.{MessageFault}
use Rattle.mail_objects.specs.Forms.{Ctx, Tbl}
use Rattle.mail_objects.specs.Objects.{ShowsContext, ShowsMail, ShowsTable}
use Rattle.mail_tree.specs.Changing.{associated, contents, hierarchy}
use Rattle.mail_tree.specs.Folders.{nid, place}
use Rattle.mail_objects.proofs.OneLaws.{one-context}
use Rattle.named_props.specs.Holding.{names_of}
use Rattle.mail_tree.specs.Names.{AreNames}
use Rattle.mail_tree.specs.Found.{StandsBelow}
use Rattle.mail_tree.specs.Places.{ROOT, find_place, is_plain}
use Rattle.mail_tree.specs.declared.places.FolderPlace.{FolderPlace}
use Rattle.node_port.specs.Nodes.{Nodes, node_at}
use Rattle.node_port.specs.declared.node.NodeRec.{NodeRec}
use Rattle.mail_tree.specs.declared.places.Sort.TheVariants.{Plain}
use Rattle.mail_tree.specs.Standing.{HasContext, HasTable, HasTables, HasTree, names_sort}
use Rattle.tree_look.specs.Faults.{HasFault, IsFixed, IsFormless, IsNamed, IsOpened, IsReached, IsTreeFault, Stops}
use Rattle.tree_look.specs.declared.stops.LookRefusal.{LookRefusal}
use Rattle.tree_look.specs.declared.stops.LookRefusal.TheVariants as refusals
use Rattle.std.specs.Result.{IsErrAnd}
use Rattle.tree_look.specs.declared.stops.LookStop.{LookStop}
use Rattle.tree_look.specs.declared.stops.LookStop.TheVariants as stops
use Rattle.tree_look.specs.declared.stops.TreeFault.{TreeFault}
use Rattle.tree_look.specs.declared.stops.TreeFault.TheVariants.{Missing, Table, Parent, Depth, Cycle}
use Rattle.tree_look.proofs.Found.{one_depth, plain_kind}

-- each folder that rows lead to stands in the tree, as deep
pub reached_placed : (N : Nodes) (places : List FolderPlace) → HasTree N places → (n f : ℕ) → IsReached N n f → (p : FolderPlace) × (find_place f places ≡ Some p) × StandsBelow places n f
reached_placed N places tree zero f is = (place ROOT ROOT, subst (λ q. find_place q places ≡ Some (place ROOT ROOT)) (sym is) tree.root, is)
reached_placed N places tree (suc n) f is =
    let above = reached_placed N places tree n is.0 is.1 in
    let plain : is_plain above.0 ≡ true = plain_kind (above.0).sort (is.0 % 32) (tree.kinds is.0 above.0 above.1) is.2 in
    let here = tree.listed is.0 above.0 f above.1 plain is.3 is.4.0 is.4.1 in
    (record { nid = nid f; parent = nid is.0; sort = is.4.0 }, here.1, (here.0, (record { nid = nid f; parent = nid is.0; sort = is.4.0 }, here.1, above.2)))

opened_tables : (N : Nodes) (places : List FolderPlace) → HasTree N places → (f : ℕ) → IsOpened N f → HasTables N f
opened_tables N places tree f is =
    let at = reached_placed N places tree is.0 f is.1 in
    tree.tables f at.0 at.1 (plain_kind (at.0).sort (f % 32) (tree.kinds f at.0 at.1) is.2)

opened_listed : (N : Nodes) (places : List FolderPlace) → HasTree N places → (f : ℕ) → IsOpened N f → (r : ℕ) → IsNamed N f r → (node : NodeRec) × (node_at N r ≡ Some node) × (node.parent.bits ≡ f)
opened_listed N places tree f is r (inl named) =
    let at = reached_placed N places tree is.0 f is.1 in
    let here = tree.listed f at.0 r at.1 (plain_kind (at.0).sort (f % 32) (tree.kinds f at.0 at.1) is.2) named.0 named.1.0 named.1.1 in
    let has = tree.contexts r (record { nid = nid r; parent = nid f; sort = named.1.0 }) here.1 in
    (has.1.0, has.1.1, sym (has.1.2).parent ∙ has.2 here.0)
opened_listed N places tree f is r (inr message) =
    let has = (opened_tables N places tree f is).listed r message in
    (has.1.0, has.1.1, sym ((has.1.2).message).folder ∙ has.2)

no_node : (N : Nodes) (q : ℕ) (node : NodeRec) → node_at N q ≡ None → node_at N q ≡ Some node → ⊥
no_node N q node none some = none-some node (sym none ∙ some)

fixed_context : (N : Nodes) (places : List FolderPlace) → HasTree N places → (q : ℕ) → IsFixed q → (c : Ctx) × HasContext N q c
fixed_context N places tree q (inl e) = subst (λ k. (c : Ctx) × HasContext N k c) (sym e) tree.store
fixed_context N places tree q (inr e) = subst (λ k. (c : Ctx) × HasContext N k c) (sym e) (tree.names.0, tree.names.1)

reached_context : (N : Nodes) (places : List FolderPlace) → HasTree N places → (n q : ℕ) → IsReached N n q → (c : Ctx) × HasContext N q c
reached_context N places tree n q is = let at = reached_placed N places tree n q is in let has = tree.contexts q at.0 at.1 in (has.0, has.1)

missing : (N : Nodes) (places : List FolderPlace) → HasTree N places → (q : ℕ) → node_at N q ≡ None → IsFixed q ⊎ (q ≡ ROOT) ⊎ ((p : ℕ) × IsOpened N p × IsNamed N p q) → ⊥
missing N places tree q none (inl fixed) = let has = fixed_context N places tree q fixed in no_node N q has.1.0 none has.1.1
missing N places tree q none (inr (inl root)) = let has = reached_context N places tree 0 q root in no_node N q has.1.0 none has.1.1
missing N places tree q none (inr (inr named)) = let has = opened_listed N places tree named.0 named.1 q named.2 in no_node N q has.0 none has.1

unfit : (N : Nodes) (places : List FolderPlace) → HasTree N places → (q : ℕ) (fault : TreeFault) → IsTreeFault N q fault → ⊥
unfit N places tree q Missing is = missing N places tree q is.0 is.1
unfit N places tree q Table is =
    let has = opened_tables N places tree q is.0 in
    ⊎_elim (λ none. no_node N (hierarchy q) (has.folders).1.0 none (has.folders).1.1) (λ none. no_node N (contents q) (has.messages).1.0 none (has.messages).1.1) is.1
unfit N places tree q Parent is =
    let has = opened_listed N places tree is.2.0 is.2.1 q is.2.2 in
    is.2.3 (ap (λ (n : NodeRec). n.parent.bits) (same_Some is.0 has.0 (sym is.1 ∙ has.1)) ∙ has.2)
unfit N places tree q Depth is =
    let at = reached_placed N places tree 65 q is in
    let deep = tree.reached q at.0 at.1 in
    let same : 65 ≡ deep.0 = one_depth places 65 deep.0 q at.2 deep.2 in
    absurd (omega (arith, same, deep.1))
unfit N places tree q Cycle is =
    let at = reached_placed N places tree is.1.1.0 is.1.0 is.1.1.1 in
    (tree.listed is.1.0 at.0 q at.1 (plain_kind (at.0).sort (is.1.0 % 32) (tree.kinds is.1.0 at.0 at.1) is.1.1.2) is.1.2 Plain (root_sort q is.0)).0 is.0
  where
    root_sort : (q : ℕ) → q ≡ ROOT → names_sort N q ≡ Some Plain
    root_sort q e = rw e refl

formless : (N : Nodes) (places : List FolderPlace) → HasTree N places → (q : ℕ) (node : NodeRec) (fault : MessageFault) → node_at N q ≡ Some node → IsFormless N q node fault → ⊥
formless N places tree q node fault at (inl (inl fixed, none)) = let has = fixed_context N places tree q fixed in none.0 has.0 (subst (λ (n : NodeRec). ShowsContext n has.0) (same_Some has.1.0 node (sym has.1.1 ∙ at)) has.1.2)
formless N places tree q node fault at (inl (inr folder, none)) = let has = reached_context N places tree folder.0 q folder.1 in none.0 has.0 (subst (λ (n : NodeRec). ShowsContext n has.0) (same_Some has.1.0 node (sym has.1.1 ∙ at)) has.1.2)
formless N places tree q node fault at (inr (inl (table, none))) =
    let has = opened_tables N places tree table.0 table.1 in
    let never : (k : ℕ) → q ≡ k → ((t : Tbl) × HasTable N k t) → ⊥ = λ k e t.
    none.0 t.0 (subst (λ (n : NodeRec). ShowsTable n t.0) (same_Some t.1.0 node (sym t.1.1 ∙ subst (λ j. node_at N j ≡ Some node) e at)) t.1.2) in
    ⊎_elim (λ e. never (hierarchy table.0) e has.folders) (λ more. ⊎_elim (λ e. never (contents table.0) e has.messages)
    (λ e. ⊎_elim (λ gone. no_node N q node (subst (λ j. node_at N j ≡ None) (sym e) gone) at) (never (associated table.0) e) has.others) more) table.2
formless N places tree q node fault at (inr (inr (message, none))) =
    let has = (opened_tables N places tree message.0 message.1).listed q message.2 in
    none.0 has.0 (subst (λ (n : NodeRec). ShowsMail q n has.0) (same_Some has.1.0 node (sym has.1.1 ∙ at)) has.1.2)

-- a node of names whose values hold none
no_names : (N : Nodes) → ((c : Ctx) × HasContext N 0x61 c × (names_of c.props ≡ None)) → ((c : Ctx) × HasContext N 0x61 c × AreNames c.props) → ⊥
no_names N bad good =
    let node = same_Some bad.1.0 good.1.0 (sym bad.1.1 ∙ good.1.1) in
    let same : bad.0 ≡ good.0 = one-context good.1.0 bad.0 good.0 (subst (λ (n : NodeRec). ShowsContext n bad.0) node bad.1.2) good.1.2 in
    none-some good.2.0 (sym bad.2 ∙ ap (λ (c : Ctx). names_of c.props) same ∙ good.2.1)

pub fault_excludes : (N : Nodes) (refusal : LookRefusal) → HasFault N refusal → (places : List FolderPlace) → HasTree N places → ⊥
fault_excludes N (refusals.Node q fault) is places tree = formless N places tree q.bits is.0 fault is.1 is.2
fault_excludes N (refusals.Tree q fault) is places tree = unfit N places tree q.bits fault is
fault_excludes N refusals.Names is places tree = no_names N is tree.names

-- so where a look is refused, there is no tree
pub excludes : {A : Type 0} (result : Result A LookStop) (e : LookStop) (holds : Nodes → Type 0) → IsErrAnd result (λ x. x ≡ e) → ((N : Nodes) → holds N → Stops N e)
    → IfErr result (λ stop. (refusal : LookRefusal) → stop ≡ stops.Refused refusal → (N : Nodes) → holds N → (places : List FolderPlace) → HasTree N places → ⊥)
excludes (Ok y) e holds h s = absurd h
excludes (Err x) e holds h s = λ refusal is N held places tree. fault_excludes N refusal (subst (Stops N) (sym h ∙ is) (s N held)) places tree
