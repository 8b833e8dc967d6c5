-- What each command on folders makes of their places, and that it keeps the messages.
use Rattle.std.proofs.Common.{◌≡◌, ℕ, ◌%◌, ◌==◌, ◌<◌, Bool, true, false, List, [], ◌∷◌, Option, None, Some, IfOk, arith, refl, sym, ap, ◌∙◌, inl, inr, ◌||◌}
use Rattle.std.proofs.lemmas.Bool.{cases_Bool, cases_eq, eqb-true}
use Rattle.std.proofs.lemmas.Option.{none-some, same_Some}
use Rattle.pst_base.specs.Ids.{nid_of}
use Rattle.mapi_values.specs.Characters.{folded}
use Rattle.mapi_values.specs.Keyed.{drop_key, put_key}
use Rattle.command_text.specs.declared.reply.LastLine.TheVariants.{Done, Made}
use Rattle.mail_objects.specs.Forms.{Ctx}
use Rattle.mail_objects.specs.declared.object.Object.TheVariants.{Context, Table}
use Rattle.node_port.specs.Nodes.{node_at}
use Rattle.mail_tree.specs.declared.places.FolderPlace.{FolderPlace}
use Rattle.mail_tree.specs.declared.places.Sort.{Sort}
use Rattle.mail_tree.specs.declared.places.Sort.TheVariants.{Plain, Foreign}
use Rattle.mail_tree.specs.Places.{ROOT, children, find_place, is_deep, is_plain, is_plain_sort, is_within, moves_deep, place_id}
use Rattle.mail_tree.specs.Tree.{Tree}
use Rattle.mapi_values.specs.Properties.{find, put}
use Rattle.mail_tree.specs.Values.{folder_props, name_of, text}
use Rattle.mail_tree.specs.Changing.{Changed, ◌>>=◌, add_shown, as_message, associated, beside, contents, context_at, drop_shown, hierarchy, nothing, now_at, table_at, with_object}
use Rattle.mail_tree.specs.Columns.{contents_table, hierarchy_table}
use Rattle.mail_tree.specs.Settling.{mirrored, settled, with_context}
use Rattle.mail_tree.specs.Ids.{folder_kinds, is_spent, is_taken, new_id, next_index}
use Rattle.mail_tree.specs.Folders.{Outcome, associated_in, changing, has_associated, has_rows, made_folder, making, making_folder, moved_between, moved_folder, moving, nid, place, removed_folder, renamed_folder, replied, siblings, unless_full, unless_named, unless_protected, with_folder, without_folder, without_node}
use Rattle.mail_tree.specs.Step.{after}
use Rattle.mail_laws.specs.Laws.{OnlyPlace}
use Rattle.mail_tree.proofs.KeyedFinds.{find-put_same, find-put_other, find-drop_same, find-drop_other}
use Rattle.mail_tree.proofs.AfterTree.{after_now, now_nothing, puts_object}
use Rattle.mail_tree.proofs.FineLaws.{cases_Option}
use Rattle.mail_laws.proofs.NewIds.{free_folder, new_id_is, next_is_free, no_stray_beside}
use Rattle.mail_tree.proofs.Nearly.{nearly, plain_id}
use Rattle.mail_tree.proofs.KindsOfPuts.{beside_kind}
use Rattle.mail_laws.proofs.MessageSteps.{Before, Keeps}
use Rattle.mail_laws.proofs.FolderSteps.{fine_protected, not_placed}
use Rattle.mail_laws.proofs.Keeping.{Comes, Four, no_table, Kept, KeepsAt, add_keeps, both, drop_keeps, from_fine, if_any, if_then, if_weaker, kept_put, mirrored_keeps, never_made, table_apart, then_changing, then_making, then_moving, then_settled}
use Rattle.mail_laws.proofs.Effects.{no_message, place_apart}

-- one folder stands so now, and the others where they stood
pub record Placed (T : Tree) (f : ℕ) (now : Option FolderPlace) (o : Outcome) : Type 0 where
  pub keeps : Kept Four (now_at T nothing) (now_at T o.changed)
  pub here : find_place f o.places ≡ now
  pub others : (g : ℕ) → (g ≡ f → ⊥) → find_place g o.places ≡ find_place g T.places

pub only_place : (T : Tree) (f : ℕ) (now : Option FolderPlace) (o : Outcome) → Before T → Keeps T o → Placed T f now o → OnlyPlace T (after T o) f now
only_place T f now o w w' c = record {
  here = c.here;
  others = c.others;
  messages = λ k. ap (λ g. as_message (g k)) (sym (after_now T o)) ∙ elim (cases_eq (k % 32) 4) [
    | inl four ↦ ap as_message (c.keeps k four)
    | inr four ↦ no_message k (now_at T o.changed k) (w'.typed k) four ∙ sym (no_message k (now_at T nothing k) (w.typed k) four)
  ] ∙ ap (λ g. as_message (g k)) (now_nothing T);
}

put_placed : (T : Tree) (f parent : ℕ) (o : Outcome) → Kept Four (now_at T nothing) (now_at T o.changed) → o.places ≡ put_key place_id (place f parent) T.places → Placed T f (Some (place f parent)) o
put_placed T f parent o keeps places = record {
  keeps = keeps;
  here = ap (find_place f) places ∙ find-put_same place_id (place f parent) T.places;
  others = λ g other. ap (find_place g) places ∙ find-put_other place_id g (place f parent) T.places other;
}

-- `mkdir`
with_folder_keeps : (T : Tree) (f parent : ℕ) (name : List ℕ) → f % 32 ≡ 2 → Kept Four (now_at T nothing) (now_at T (with_folder f parent name nothing))
with_folder_keeps T f parent name two k four =
    let c : Ctx = record { parent = parent; props = folder_props name; kept = [] } in
    let D1 = with_object f (Some (Context c)) nothing in
    let D2 = with_object (hierarchy f) (Some (Table hierarchy_table)) D1 in
    let D3 = with_object (contents f) (Some (Table contents_table)) D2 in
    kept_put Four _ _ (associated f) _ (puts_object T D3 (associated f) (Some (Table contents_table))) (table_apart f 15 (omega arith) (omega arith)) k four
    ∙ kept_put Four _ _ (contents f) _ (puts_object T D2 (contents f) (Some (Table contents_table))) (table_apart f 14 (omega arith) (omega arith)) k four
    ∙ kept_put Four _ _ (hierarchy f) _ (puts_object T D1 (hierarchy f) (Some (Table hierarchy_table))) (table_apart f 13 (omega arith) (omega arith)) k four
    ∙ kept_put Four _ _ f _ (puts_object T nothing f (Some (Context c))) (λ e. omega arith) k four

-- a folder has this name
abbrev pub NamedNow : Tree → ℕ → List ℕ → Outcome → Type 0
NamedNow T f name o = (c : Ctx) × (now_at T o.changed f ≡ Some (Context c)) × (find 0x3001 c.props ≡ Some (text 0x3001 name))

abbrev pub MadeFolder : Tree → ℕ → List ℕ → Outcome → Type 0
MadeFolder T parent name o = (f : ℕ) × (o.reply ≡ replied (Made (nid f))) × (now_at T nothing f ≡ None) × Placed T f (Some (place f parent)) o × NamedNow T f name o × (node_at T.others (associated f) ≡ None)
    × (now_at T o.changed f ≡ Some (Context (record { parent = parent; props = folder_props name; kept = [] })))

-- a folder's own id is none of a table
own_apart : (f g kind : ℕ) → f % 32 ≡ 2 → kind < 32 → 4 < kind → f ≡ beside g kind → ⊥
own_apart f g kind two small large e = omega (arith, beside_kind g kind small)

-- the id of one folder
no_folder_table : (f : ℕ) → f % 32 ≡ 2 → (g : ℕ) → hierarchy g ≡ f → ⊥
no_folder_table f two g e = own_apart f g 13 two (omega arith) (omega arith) (sym e)

with_folder_is : (T : Tree) (f parent : ℕ) (name : List ℕ) → f % 32 ≡ 2 → now_at T (with_folder f parent name nothing) f ≡ Some (Context (record { parent = parent; props = folder_props name; kept = [] }))
with_folder_is T f parent name two =
    let c : Ctx = record { parent = parent; props = folder_props name; kept = [] } in
    let D1 = with_object f (Some (Context c)) nothing in
    let D2 = with_object (hierarchy f) (Some (Table hierarchy_table)) D1 in
    let D3 = with_object (contents f) (Some (Table contents_table)) D2 in
    (puts_object T D3 (associated f) (Some (Table contents_table))).others f (own_apart f f 15 two (omega arith) (omega arith))
    ∙ (puts_object T D2 (contents f) (Some (Table contents_table))).others f (own_apart f f 14 two (omega arith) (omega arith))
    ∙ (puts_object T D1 (hierarchy f) (Some (Table hierarchy_table))).others f (own_apart f f 13 two (omega arith) (omega arith))
    ∙ (puts_object T nothing f (Some (Context c))).here

pub makes_folder : (T : Tree) (parent : ℕ) (name : List ℕ) → Before T → IfOk (made_folder T parent name) (MadeFolder T parent name)
unfolding made_folder making_folder
makes_folder T parent name w = elim (cases_Option (find_place parent T.places)) [
  | inl e ↦ rw e tt
  | inr p ↦ rw p.1 (elim (cases_Bool (is_plain p.0)) [
    | inr plain ↦ rw plain tt
    | inl plain ↦ rw plain (if_then (λ u. Unit {0}) (MadeFolder T parent name) (unless_named T (folded false name) (children parent T.places)) _ (if_any (unless_named T (folded false name) (children parent T.places))) (λ u u'.
        elim (cases_Bool (is_deep T.places parent)) [
          | inl b ↦ rw b tt
          | inr b ↦ rw b (if_then (λ v. Unit {0}) (MadeFolder T parent name) (unless_full T (hierarchy parent)) _ (if_any (unless_full T (hierarchy parent))) (λ v v'. elim (cases_Bool (is_spent (next_index T 2 folder_kinds))) [
            | inl t ↦
                let index = next_index T 2 folder_kinds in let f = new_id 2 index in let places = put_key place_id (place f parent) T.places in
                never_made T places 2 index (MadeFolder T parent name) (add_shown T (hierarchy parent) f (folder_props name) (with_folder f parent name nothing) >>= settled T places parent) t
            | inr t ↦
                let index = next_index T 2 folder_kinds in
                let f = new_id 2 index in
                let places = put_key place_id (place f parent) T.places in
                let free = next_is_free T 2 folder_kinds t in
                let id = new_id_is 2 index free.1 in
                let two : f % 32 ≡ 2 = ap (λ x. x % 32) id ∙ kind_two index in
                let none : now_at T nothing f ≡ None = ap (now_at T nothing) id ∙ ap (λ g. g (nid_of 2 index)) (now_nothing T) ∙ free_folder T index free.0 in
                let D = with_folder f parent name nothing in
                let a = add_shown T (hierarchy parent) f (folder_props name) D in
                let other : parent ≡ f → ⊥ = λ e. none-some p.0 (sym (not_placed T f w none) ∙ ap (λ x. find_place x T.places) (sym e) ∙ p.1) in
                let reply = replied (Made (nid f)) in
                (both (Comes Four no_table T D places reply) (Comes (λ k. k ≡ f) (no_folder_table f two) T D places reply) (MadeFolder T parent name) (a >>= settled T places parent >>= making T places 2 index)
                (then_making Four no_table T D (a >>= settled T places parent) places 2 index (then_settled Four no_table T places parent D a (place_apart T w parent p.0 p.1)
                (add_keeps Four no_table T (hierarchy parent) f (folder_props name) D (table_apart parent 13 (omega arith) (omega arith)))))
                (then_making (λ k. k ≡ f) (no_folder_table f two) T D (a >>= settled T places parent) places 2 index (then_settled (λ k. k ≡ f) (no_folder_table f two) T places parent D a other
                (add_keeps (λ k. k ≡ f) (no_folder_table f two) T (hierarchy parent) f (folder_props name) D (no_folder_table f two parent))))
                (λ o c k. (
                  f,
                  c.reply_is,
                  none,
                  put_placed T f parent o (λ k four. c.keeps k four ∙ with_folder_keeps T f parent name two k four) c.places_are,
                  (record { parent = parent; props = folder_props name; kept = [] }, k.keeps f refl ∙ with_folder_is T f parent name two, refl),
                  no_stray_beside T t,
                  k.keeps f refl ∙ with_folder_is T f parent name two,
                )))
          ]))
        ]))
  ])
]
  where
    kind_two : (index : ℕ) → nid_of 2 index % 32 ≡ 2
    kind_two index = omega arith

-- `rename`
abbrev pub Renamed : Tree → ℕ → List ℕ → Outcome → Type 0
Renamed T f name o = (p : FolderPlace) × (find_place f T.places ≡ Some p) × Placed T f (Some p) o × NamedNow T f name o

pub renames_folder : (T : Tree) (f : ℕ) (name : List ℕ) → Before T → IfOk (renamed_folder T f name) (Renamed T f name)
unfolding renamed_folder
renames_folder T f name w = elim (cases_Option (find_place f T.places)) [
  | inl e ↦ rw e tt
  | inr p ↦ rw p.1 (elim (cases_Bool (is_plain p.0)) [
    | inr plain ↦ rw plain tt
    | inl plain ↦ rw plain (
        if_then (λ u. Unit {0}) (Renamed T f name) (unless_protected T f) _ (if_any (unless_protected T f)) (λ u u'.
        if_then (λ v. Unit {0}) (Renamed T f name) (unless_named T (folded false name) (siblings T p.0.parent.bits f)) _ (if_any (unless_named T (folded false name) (siblings T p.0.parent.bits f))) (λ v v'.
        if_then (λ c. Unit {0}) (Renamed T f name) (context_at T nothing f) _ (if_any (context_at T nothing f)) (λ c v''.
        let props = put (text 0x3001 name) c.props in
        let new : Ctx = record c { props = props } in
        let D = with_context f c props nothing in
        let puts = puts_object T nothing f (Some (Context new)) in
        let two = plain_id (nearly (λ x. ⊥) T.places (now_at T nothing) w) f p.0 p.1 plain in
        both (Comes Four no_table T D T.places (replied Done)) (Comes (λ k. k ≡ f) (no_folder_table f two) T D T.places (replied Done)) (Renamed T f name) (mirrored T f D >>= changing T (replied Done))
        (then_changing Four no_table T D (mirrored T f D) (replied Done) (mirrored_keeps Four no_table T f D))
        (then_changing (λ k. k ≡ f) (no_folder_table f two) T D (mirrored T f D) (replied Done) (mirrored_keeps (λ k. k ≡ f) (no_folder_table f two) T f D))
        (λ o o' k. (
          p.0,
          p.1,
          record {
            keeps = λ q four. o'.keeps q four ∙ kept_put Four _ _ f _ puts (place_apart T w f p.0 p.1) q four;
            here = ap (find_place f) o'.places_are ∙ p.1;
            others = λ g other. ap (find_place g) o'.places_are;
          },
          (new, k.keeps f refl ∙ puts.here, find-put_same (λ v. v.id) (text 0x3001 name) c.props),
        ))))))
  ])
]

-- `mvdir`
sort_plain : (s : Sort) → is_plain_sort s ≡ true → s ≡ Plain
sort_plain Plain e = refl
sort_plain Foreign e = cc

pub found_id : (f : ℕ) (ps : List FolderPlace) (p : FolderPlace) → find_place f ps ≡ Some p → place_id p ≡ f
found_id f [] p e = absurd (none-some p e)
found_id f (q ∷ qs) p e = elim (cases_Bool (place_id q == f)) [
  | inl t ↦ ap place_id (sym (same_Some q p (rw t at e))) ∙ eqb-true (place_id q) f t
  | inr t ↦ found_id f qs p (rw t at e)
]

pub is_place : (p : FolderPlace) (f parent : ℕ) → place_id p ≡ f → p.parent.bits ≡ parent → is_plain p ≡ true → p ≡ place f parent
is_place p f parent a b plain = λ i. record { nid = record { bits = a i }; parent = record { bits = b i }; sort = sort_plain p.sort plain i }

pub moves_folder : (T : Tree) (f parent : ℕ) → Before T → IfOk (moved_folder T f parent) (Placed T f (Some (place f parent)))
unfolding moved_folder moved_between
moves_folder T f parent w = elim (cases_Option (find_place f T.places)) [
  | inl e ↦ rw e tt
  | inr p ↦ rw p.1 (elim (cases_Option (find_place parent T.places)) [
    | inl e ↦ rw e tt
    | inr q ↦ rw q.1 (elim (cases_Bool (is_plain p.0)) [
      | inr plain ↦ rw plain tt
      | inl plain_p ↦ rw plain_p (elim (cases_Bool (is_plain q.0)) [
        | inr plain ↦ rw plain tt
        | inl plain_q ↦ rw plain_q (if_then (λ u. f ≡ ROOT → ⊥) Q (unless_protected T f) _ (from_fine (λ u. f ≡ ROOT → ⊥) (unless_protected T f) (fine_protected T f w)) (λ u no_root. elim (cases_Bool (is_within T.places f parent)) [
          | inl b ↦ rw b tt
          | inr b ↦ rw b (elim (cases_Bool (p.0.parent.bits == parent)) [
            | inl b ↦ rw b (record {
              keeps = λ k four. refl;
              here = p.1 ∙ ap (λ (x : FolderPlace). Some x) (is_place p.0 f parent (found_id f T.places p.0 p.1) (eqb-true p.0.parent.bits parent b) plain_p);
              others = λ g other. refl;
            })
            | inr b ↦
                let c = w.contexts f p.0 p.1 in
                let from = p.0.parent.bits in let v = w.parents f p.0 p.1 no_root in
                let places = put_key place_id (place f parent) T.places in
                let D = with_object f (Some (Context (record c.0 { parent = parent }))) nothing in
                let kept = kept_put Four _ _ f _ (puts_object T nothing f (Some (Context (record c.0 { parent = parent })))) (place_apart T w f p.0 p.1) in
                let a = drop_shown T (hierarchy from) f D in
                rw (b, c.1) (if_then (λ u. Unit {0}) Q (unless_named T (folded false (name_of c.0.props)) (children parent T.places)) _ (if_any (unless_named T (folded false (name_of c.0.props)) (children parent T.places))) (λ u u'.
                elim (cases_Bool (moves_deep T.places f parent)) [
                  | inl b ↦ rw b tt
                  | inr b ↦ rw b (if_weaker (Comes Four no_table T D places (replied Done)) Q _
                      (then_moving Four no_table T D _ places (replied Done)
                      (if_then (KeepsAt Four T D) (KeepsAt Four T D) a _ (drop_keeps Four no_table T (hierarchy from) f D (table_apart from 13 (omega arith) (omega arith))) (λ D1 k.
                      let a' = add_shown T (hierarchy parent) f c.0.props D1 in
                      if_weaker (KeepsAt Four T D1) (KeepsAt Four T D) (a' >>= settled T places from >>= settled T places parent)
                      (then_settled Four no_table T places parent D1 (a' >>= settled T places from) (place_apart T w parent q.0 q.1)
                      (then_settled Four no_table T places from D1 a' (place_apart T w from v.0 v.1) (add_keeps Four no_table T (hierarchy parent) f c.0.props D1 (table_apart parent 13 (omega arith) (omega arith)))))
                      (λ D2 k' n four. k' n four ∙ k n four))))
                      (λ o c. put_placed T f parent o (λ k four. c.keeps k four ∙ kept k four) c.places_are))
                ]))
          ])
        ]))
      ])
    ])
  ])
]
  where
    Q : Outcome → Type 0
    Q = Placed T f (Some (place f parent))

-- `rmdir`
node_keeps : (T : Tree) (q : ℕ) (b : Bool) (D : Changed) → (q % 32 ≡ 4 → ⊥) → KeepsAt Four T D (without_node q b D)
node_keeps T q false D other k four = refl
node_keeps T q true D other k four = kept_put Four _ _ q _ (puts_object T D q None) other k four

without_folder_keeps : (T : Tree) (f : ℕ) → (f % 32 ≡ 4 → ⊥) → KeepsAt Four T nothing (without_folder T f nothing)
without_folder_keeps T f other k four =
    let D1 = with_object f None nothing in let D2 = with_object (hierarchy f) None D1 in let D3 = with_object (contents f) None D2 in
    node_keeps T (associated f) (is_taken T (associated f)) D3 (table_apart f 15 (omega arith) (omega arith)) k four
    ∙ kept_put Four _ _ (contents f) _ (puts_object T D2 (contents f) None) (table_apart f 14 (omega arith) (omega arith)) k four
    ∙ kept_put Four _ _ (hierarchy f) _ (puts_object T D1 (hierarchy f) None) (table_apart f 13 (omega arith) (omega arith)) k four
    ∙ kept_put Four _ _ f _ (puts_object T nothing f None) other k four

pub removes_folder : (T : Tree) (f : ℕ) → Before T → IfOk (removed_folder T f) (Placed T f None)
unfolding removed_folder
removes_folder T f w = elim (cases_Option (find_place f T.places)) [
  | inl e ↦ rw e tt
  | inr p ↦ rw p.1 (elim (cases_Bool (is_plain p.0)) [
    | inr plain ↦ rw plain tt
    | inl plain ↦ rw plain (if_then (λ u. f ≡ ROOT → ⊥) (Placed T f None) (unless_protected T f) _ (from_fine (λ u. f ≡ ROOT → ⊥) (unless_protected T f) (fine_protected T f w)) (λ u no_root.
        if_then (λ a. Unit {0}) (Placed T f None) (table_at T nothing (hierarchy f)) _ (if_any (table_at T nothing (hierarchy f))) (λ a a'.
        if_then (λ b. Unit {0}) (Placed T f None) (table_at T nothing (contents f)) _ (if_any (table_at T nothing (contents f))) (λ b b'.
        if_then (λ c. Unit {0}) (Placed T f None) (associated_in T f) _ (if_any (associated_in T f)) (λ c c'.
        elim (cases_Bool (has_rows a || (has_rows b || has_associated c))) [
          | inl some ↦ rw some tt
          | inr none ↦
              let from = p.0.parent.bits in let v = w.parents f p.0 p.1 no_root in
              let places = drop_key place_id f T.places in
              let D = without_folder T f nothing in
              let d = drop_shown T (hierarchy from) f D in
              rw none (if_weaker (Comes Four no_table T D places (replied Done)) (Placed T f None) (d >>= settled T places from >>= moving T places (replied Done))
              (then_moving Four no_table T D (d >>= settled T places from) places (replied Done) (then_settled Four no_table T places from D d (place_apart T w from v.0 v.1) (drop_keeps Four no_table T (hierarchy from) f D (table_apart from 13 (omega arith) (omega arith)))))
              (λ o c. record {
                keeps = λ k four. c.keeps k four ∙ without_folder_keeps T f (place_apart T w f p.0 p.1) k four;
                here = ap (find_place f) c.places_are ∙ find-drop_same place_id 0 f T.places w.ascend;
                others = λ g other. ap (find_place g) c.places_are ∙ find-drop_other place_id g f T.places other;
              }))
        ])))))
  ])
]
