-- Running searches list what they are to list after all were settled.
use Rattle.std.proofs.Common.{◌≡◌, ◌∙◌, ℕ, true, List, Some, ap, sym, refl, arith}
use Rattle.mapi_values.specs.Values.{Val}
use Rattle.mail_objects.specs.Forms.{Tbl}
use Rattle.mail_objects.specs.declared.object.Object.TheVariants.{Table}
use Rattle.mail_tree.specs.Changing.{as_message, now_at}
use Rattle.mail_tree.specs.Folders.{Outcome}
use Rattle.mail_tree.specs.Step.{after}
use Rattle.mail_tree.specs.Tree.{Tree, object_at}
use Rattle.mail_tree.proofs.AfterTree.{after_now}
use Rattle.mail_tree.proofs.KindsOfPuts.{beside_kind}
use Rattle.mail_laws.proofs.Keeping.{if_then}
use Rattle.mail_searches.specs.Searches.{IsFresh, Search, is_listed, lists, results, row_ids, runs}
use Rattle.mail_searches.specs.Relisting.{around, relisted, settled_searches}
use Rattle.mail_searches.specs.Searching.{AllFresh}
use Rattle.search_lists.specs.Laws.{Settles, StaysFresh}
use Rattle.search_lists.proofs.FollowLaws.{relists}
use Rattle.search_lists.proofs.ListLaws.{are-rows, rows-are}
use Rattle.search_lists.proofs.SettleLaws.{each-two, settles_all}

-- the list of a search is that of the messages and the places of folders
same-lists : (T T' : Tree) (s : Search) (rows : List (ℕ × List Val)) → T'.places ≡ T.places → ((m : ℕ) → as_message (object_at T' m) ≡ as_message (object_at T m)) → row_ids rows ≡ lists T s → row_ids rows ≡ lists T' s
same-lists T T' s rows places messages e =
    let old = are-rows T s rows e in
    rows-are T' s rows old.0 (λ m. old.1 m ∙ sym (ap (λ ps. is_listed ps s (as_message (object_at T' m))) places ∙ ap (is_listed T.places s) (messages m)))

pub stays_fresh : StaysFresh
stays_fresh T o ts ss touched leaves a fresh =
    if_then (Settles T (around T o) ts ss o.changed) (λ o'. AllFresh (after T o') ss) (settled_searches T (around T o) ts ss o.changed) _ (settles_all T (around T o) ts ss o.changed a) (λ D st.
    let o' : Outcome = record o { changed = D } in
    let now : (q : ℕ) → object_at (after T o') q ≡ now_at T D q = λ q. ap (λ g. g q) (sym (after_now T o')) in
    let messages : (m : ℕ) → as_message (object_at (after T o') m) ≡ as_message (object_at (after T o) m) = λ m. ap as_message (now m) ∙ st.messages m ∙ ap (λ g. as_message (g m)) (after_now T o) in
    each-two (λ s. runs s ≡ true → IsFresh T s) _ (λ s. runs s ≡ true → IsFresh (after T o') s) ss fresh st.tables (λ s old gets run.
    let f = old run in
    let t = f.0 in
    let there : now_at T o.changed (results s.nid) ≡ Some (Table t) = leaves (results s.nid) (beside_kind s.nid 16 (omega arith)) ∙ f.1 in
    let rows = relisted (around T o) s t.table.columns ts t.table.rows in
    let u : Tbl = record t { table = record t.table { rows = rows } } in
    (u, now (results s.nid) ∙ gets t there, same-lists (after T o) (after T o') s rows refl messages (relists T o ts s t.table.columns t.table.rows touched run f.2))))
