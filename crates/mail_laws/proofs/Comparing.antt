-- What commands put can be compared with the tree: it is new, or stands there already.
use Rattle.std.proofs.Common.{◌≡◌, ℕ, Bool, true, false, List, Option, None, Some, IfOk, is_some, Ok, Err, refl, sym, ap, ◌∙◌, inl, inr}
use Rattle.std.proofs.lemmas.Bool.{eq-eqb}
use Rattle.pst_base.specs.declared.ids.Nid.{Nid}
use Rattle.mapi_values.specs.Messages.{Mes}
use Rattle.mapi_values.specs.Values.{Val}
use Rattle.mail_objects.specs.Forms.{Ctx}
use Rattle.mail_objects.specs.declared.object.Object.TheVariants.{Context, Message}
use Rattle.mail_tree.specs.declared.places.FolderPlace.{FolderPlace}
use Rattle.mail_tree.specs.Tree.{Tree}
use Rattle.mail_tree.specs.Changing.{Answer, Changed, ◌>>=◌, add_shown, as_message, associated, contents, context_at, drop_shown, hierarchy, nothing, now_at, put_shown, with_object, within_limits}
use Rattle.mail_tree.specs.Folders.{moved_between, nid, with_folder, without_folder, without_node}
use Rattle.mail_tree.specs.Ids.{is_taken}
use Rattle.mail_tree.specs.Messages.{added_message}
use Rattle.mail_tree.specs.Settling.{mirrored, settled, with_context}
use Rattle.mail_tree.specs.Whole.{Fine}
use Rattle.mail_tree.proofs.AfterTree.{now_nothing}
use Rattle.mail_tree.proofs.StoodLaws.{AreStood, IsNew, added_stood, after_limits, dropped_stood, goes_on, is_context, mirrored_stood, none_stood, settled_stood, shown_stood, stood_put, stood_then, values_stood}

-- steps whose changes can be compared, and what follows where these keep to the limits
pub fine_limits : {B : Type 0} (P : Changed → Type 0) (Q : B → Type 0) (T : Tree) (new : Option Nid) (a : Answer Changed) (f : Changed → Unit {0} → Answer B)
    → Fine a P → IfOk a (AreStood T (IsNew new)) → ((D : Changed) → P D → Fine (f D tt) Q) → Fine (a >>= λ D. within_limits T new D >>= f D) Q
fine_limits P Q T new (Ok D) f fine stood next = after_limits Q T new D (f D) stood (next D fine)
fine_limits P Q T new (Err None) f fine stood next = fine
fine_limits P Q T new (Err (Some refusal)) f fine stood next = tt

-- the id of what is new
pub own_new : (q : ℕ) → IsNew (Some (nid q)) q
own_new q = eq-eqb q q refl

module _ (T : Tree) (new : ℕ → Type 0) where
  -- a message takes the place of one
  pub message_stood : (m : ℕ) (M N : Mes) → now_at T nothing m ≡ Some (Message M) → AreStood T new (with_object m (Some (Message N)) nothing)
  message_stood m M N is = stood_put T new m (Some (Message N)) nothing (inr (ap (λ g. is_some (as_message (g m))) (sym (now_nothing T)) ∙ ap (λ o. is_some (as_message o)) is)) (none_stood T new)

  -- and its row shows it
  pub remade_stood : (M N : Mes) → now_at T nothing N.nid ≡ Some (Message M) → IfOk (put_shown T (contents N.folder) N.nid N.props (with_object N.nid (Some (Message N)) nothing)) (AreStood T new)
  remade_stood M N is = shown_stood T new (contents N.folder) N.nid N.props _ (message_stood N.nid M N is)

  -- a message goes
  pub gone_stood : (m folder : ℕ) → IfOk (drop_shown T (contents folder) m (with_object m None nothing)) (AreStood T new)
  gone_stood m folder = dropped_stood T new (contents folder) m _ (stood_put T new m None nothing tt (none_stood T new))

  -- a new message comes
  pub message_comes : (M : Mes) (D : Changed) → new M.nid → AreStood T new D → IfOk (added_message T M D) (AreStood T new)
  message_comes M D is all = stood_then (add_shown T (contents M.folder) M.nid M.props (with_object M.nid (Some (Message M)) D)) (settled T T.places M.folder)
      (added_stood T new (contents M.folder) M.nid M.props _ (stood_put T new M.nid (Some (Message M)) D (inl is) all)) (λ D' k. settled_stood T new T.places M.folder D' k)

  -- a folder gets other values, and its row shows them
  pub renamed_stood : (f : ℕ) (c : Ctx) (props : List Val) → now_at T nothing f ≡ Some (Context c) → IfOk (mirrored T f (with_context f c props nothing)) (AreStood T new)
  renamed_stood f c props is = mirrored_stood T new f _ (values_stood T new f c _ nothing (none_stood T new) is)

  -- a folder moves
  pub between_stood : (f from to : ℕ) (places : List FolderPlace) → IfOk (moved_between T f from to places) (AreStood T new)
  unfolding moved_between
  between_stood f from to places = goes_on (AreStood T new) (context_at T nothing f) _ (λ c is.
      stood_then (drop_shown T (hierarchy from) f (with_object f (Some (Context (record c { parent = to }))) nothing)) (λ D. add_shown T (hierarchy to) f c.props D >>= settled T places from >>= settled T places to)
      (dropped_stood T new (hierarchy from) f _ (values_stood T new f c (record c { parent = to }) nothing (none_stood T new) (is_context (now_at T nothing f) c is)))
      (λ D k. stood_then (add_shown T (hierarchy to) f c.props D >>= settled T places from) (settled T places to)
      (stood_then (add_shown T (hierarchy to) f c.props D) (settled T places from) (added_stood T new (hierarchy to) f c.props D k) (λ D' j. settled_stood T new places from D' j))
      (λ D' j. settled_stood T new places to D' j)))

  -- a new folder
  pub folder_stood : (f parent : ℕ) (name : List ℕ) → new f → AreStood T new (with_folder f parent name nothing)
  folder_stood f parent name is =
      stood_put T new (associated f) _ _ tt (stood_put T new (contents f) _ _ tt (stood_put T new (hierarchy f) _ _ tt (stood_put T new f _ nothing (inl is) (none_stood T new))))

  pub folder_comes : (f parent : ℕ) (name : List ℕ) (props : List Val) (places : List FolderPlace) → new f → IfOk (add_shown T (hierarchy parent) f props (with_folder f parent name nothing) >>= settled T places parent) (AreStood T new)
  folder_comes f parent name props places is =
      stood_then _ (settled T places parent) (added_stood T new (hierarchy parent) f props _ (folder_stood f parent name is)) (λ D k. settled_stood T new places parent D k)

  node_gone : (q : ℕ) (b : Bool) (D : Changed) → AreStood T new D → AreStood T new (without_node q b D)
  node_gone q false D all = all
  node_gone q true D all = stood_put T new q None D tt all

  -- a folder goes
  pub folder_goes : (f parent : ℕ) (places : List FolderPlace) → IfOk (drop_shown T (hierarchy parent) f (without_folder T f nothing) >>= settled T places parent) (AreStood T new)
  folder_goes f parent places =
      let D3 = stood_put T new (contents f) None _ tt (stood_put T new (hierarchy f) None _ tt (stood_put T new f None nothing tt (none_stood T new))) in
      stood_then _ (settled T places parent) (dropped_stood T new (hierarchy parent) f _ (node_gone (associated f) (is_taken T (associated f)) _ D3)) (λ D k. settled_stood T new places parent D k)
