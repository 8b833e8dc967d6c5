-- A listing shows just the folders and the messages that are there.
use Rattle.std.proofs.Common.{◌≡◌, ℕ, suc, ◌%◌, ◌==◌, ◌&&◌, Bool, true, nat_le, List, [], ◌∷◌, ◌++◌, map, filter, IsSome, is_some, Option, None, Some, Ok, arith, refl, sym, subst, ap, ◌∙◌, inl, inr}
use Rattle.std.proofs.lemmas.Bool.{and_parts, cases_Bool, eq-eqb, eqb-true, false≢true}
use Rattle.std.proofs.lemmas.Option.{none-some, same_Some}
use Rattle.mapi_values.specs.Keyed.{find_key, keys_ascend}
use Rattle.mapi_values.specs.Messages.{Mes}
use Rattle.mapi_values.specs.Tables.{find_row}
use Rattle.mapi_values.specs.Values.{Val}
use Rattle.mapi_values.proofs.TableLaws.{filter-ascends}
use Rattle.command_text.specs.declared.reply.DataLine.{DataLine}
use Rattle.mail_objects.specs.Forms.{Tbl}
use Rattle.mail_objects.specs.declared.object.Object.{Object}
use Rattle.mail_objects.specs.declared.object.Object.TheVariants.{Context, Message, Table}
use Rattle.mail_tree.specs.declared.places.FolderPlace.{FolderPlace}
use Rattle.mail_tree.specs.Changing.{contents, nothing, now_at}
use Rattle.mail_tree.specs.Folders.{folder_lines, listed, listing, message_lines, unchanged}
use Rattle.mail_tree.specs.Places.{find_place, is_child, is_plain, place_id}
use Rattle.mail_tree.specs.Settling.{is_message_row, message_ids}
use Rattle.mail_tree.specs.Tree.{Tree, object_at}
use Rattle.mail_tree.proofs.AfterTree.{now_nothing}
use Rattle.mail_tree.proofs.KeyedFinds.{below}
use Rattle.mail_tree.proofs.KindsOfPuts.{same_table}
use Rattle.mail_tree.proofs.Nearly.{message_id}
use Rattle.mail_tree.proofs.PartLaws.{found_key}
use Rattle.mail_tree.proofs.Settles.{EachMessage, messages_of}
use Rattle.mail_laws.specs.FolderLaws.{ShowsAll, line_of_folder, line_of_message}
use Rattle.mail_laws.specs.Laws.{message_with}
use Rattle.mail_laws.proofs.LawSteps.{is_message, was_message}
use Rattle.mail_laws.proofs.MessageSteps.{Before}

-- of those that pass a test the one with a key is found, where it passes
filter_finds : {X : Type 0} (key : X → ℕ) (test : X → Bool) (k : ℕ) (xs : List X) (x : X) → find_key key k xs ≡ Some x → test x ≡ true → find_key key k (filter test xs) ≡ Some x
filter_finds key test k [] x e pass = e
filter_finds key test k (y ∷ ys) x e pass = elim (cases_Bool (key y == k)) [
  | inl t ↦ let here = rw t at e in let is : y ≡ x = same_Some y x here in let passes : test y ≡ true = ap test is ∙ pass in rw (passes, t) here
  | inr t ↦ let rest = filter_finds key test k ys x (rw t at e) pass in elim (cases_Bool (test y)) [ inl u ↦ rw (u, t) rest | inr u ↦ rw u rest ]
]

-- and what is found of them was there, and passes
filter_found : {X : Type 0} (key : X → ℕ) (test : X → Bool) (low k : ℕ) (xs : List X) (x : X) → keys_ascend key low xs ≡ true → find_key key k (filter test xs) ≡ Some x → (find_key key k xs ≡ Some x) × (test x ≡ true)
filter_found key test low k [] x a e = absurd (none-some x e)
filter_found key test low k (y ∷ ys) x a e =
    let q = and_parts (nat_le low (key y)) (keys_ascend key (suc (key y)) ys) a in
    elim (cases_Bool (test y)) [
      | inl u ↦ let e' = rw u at e in elim (cases_Bool (key y == k)) [
        | inl t ↦ let here = rw t at e' in rw t (here, ap test (sym (same_Some y x here)) ∙ u)
        | inr t ↦ rw t (filter_found key test (suc (key y)) k ys x q.1 (rw t at e'))
      ]
      | inr u ↦
          let rest = filter_found key test (suc (key y)) k ys x q.1 (rw u at e) in
          elim (cases_Bool (key y == k)) [
            | inl t ↦ let same = eqb-true (key y) k t in absurd (none-some x (sym (below key (suc (key y)) k ys q.1 (omega arith)) ∙ rest.0))
            | inr t ↦ rw t rest
          ]
    ]

-- keys ascend as what has them
map_ascends : {X : Type 0} (key : X → ℕ) (low : ℕ) (xs : List X) → keys_ascend (λ k. k) low (map key xs) ≡ keys_ascend key low xs
map_ascends key low [] = refl
map_ascends key low (x ∷ xs) = ap (λ b. nat_le low (key x) && b) (map_ascends key (suc (key x)) xs)

module _ (T : Tree) (w : Before T) where
  was : (q : ℕ) (o : Option Object) → now_at T nothing q ≡ o → object_at T q ≡ o
  was q o is = ap (λ g. g q) (sym (now_nothing T)) ∙ is

  -- the lines of folders that stand in the tree
  folders_are : (low : ℕ) (ps : List FolderPlace) → keys_ascend place_id low ps ≡ true → ((g : ℕ) (p : FolderPlace) → find_place g ps ≡ Some p → find_place g T.places ≡ Some p)
      → folder_lines T ps ≡ Ok (map (line_of_folder T) ps)
  folders_are low [] a placed = refl
  folders_are low (p ∷ ps) a placed =
      let q = and_parts (nat_le low (place_id p)) (keys_ascend place_id (suc (place_id p)) ps) a in
      let c = w.contexts (place_id p) p (placed (place_id p) p (rw (eq-eqb (place_id p) (place_id p) refl) refl)) in
      let rest = folders_are (suc (place_id p)) ps q.1 (λ g r e. placed g r (elim (cases_Bool (place_id p == g)) [
        | inl t ↦ let same = eqb-true (place_id p) g t in absurd (none-some r (sym (below place_id (suc (place_id p)) g ps q.1 (omega arith)) ∙ e))
        | inr t ↦ rw t e
      ])) in
      rw (c.1, was (place_id p) (Some (Context c.0)) c.1, rest) refl

  -- messages that stand at these ids, and their lines
  pub record Lines (ms : List ℕ) : Type 0 where
    pub messages : List Mes
    pub lines_are : message_lines T ms ≡ Ok (map line_of_message messages)
    pub ids_are : map (λ (M : Mes). M.nid) messages ≡ ms
    pub there : (m : ℕ) (M : Mes) → find_key (λ (N : Mes). N.nid) m messages ≡ Some M → message_with T m ≡ Some M

  messages_are : (ms : List ℕ) → EachMessage (now_at T nothing) ms → Lines ms
  messages_are [] each = record { messages = []; lines_are = refl; ids_are = refl; there = λ m M e. absurd (none-some M e) }
  messages_are (m ∷ ms) each =
      let M = each.0.0 in let is = each.0.1 in
      let own : M.nid ≡ m = (message_id m M (w.typed m (Message M) is)).1 in
      let rest = messages_are ms each.1 in
      record {
        messages = M ∷ rest.messages;
        lines_are = rw (is, rest.lines_are, own) refl;
        ids_are = rw (own, rest.ids_are) refl;
        there = λ k N e. elim (cases_Bool (M.nid == k)) [
          | inl t ↦ let here = rw t at e in ap (message_with T) (sym (eqb-true M.nid k t) ∙ own) ∙ was_message T m M is ∙ here
          | inr t ↦ rest.there k N (rw t at e)
        ];
      }

  -- what stands at an id that is among the ids
  among : (m : ℕ) (Ms : List Mes) (rows : List (ℕ × List Val)) → map (λ (M : Mes). M.nid) Ms ≡ map (λ r. r.0) rows → is_some (find_key (λ (M : Mes). M.nid) m Ms) ≡ is_some (find_row m rows)
  among m [] [] e = refl
  among m [] (r ∷ rows) e = cc
  among m (M ∷ Ms) [] e = cc
  among m (M ∷ Ms) (r ∷ rows) e =
      let same : M.nid ≡ r.0 = cc in let rest : map (λ (M : Mes). M.nid) Ms ≡ map (λ r. r.0) rows = cc in
      elim (cases_Bool (r.0 == m)) [
        | inl t ↦ rw (same, t) refl
        | inr t ↦ rw (same, t) (among m Ms rows rest)
      ]

  there_is : {A : Type 0} (o : Option A) → is_some o ≡ true → (x : A) × (o ≡ Some x)
  there_is None e = absurd (false≢true e)
  there_is (Some x) e = (x, refl)

  -- what is found is the message that the tree has
  that_one : (m : ℕ) (M : Mes) (o : Option Mes) → is_some o ≡ true → ((N : Mes) → o ≡ Some N → message_with T m ≡ Some N) → message_with T m ≡ Some M → o ≡ Some M
  that_one m M None e has there = absurd (false≢true e)
  that_one m M (Some N) e has there = sym (has N refl) ∙ there

  module _ (f : ℕ) (p : FolderPlace) (found : find_place f T.places ≡ Some p) (plain : is_plain p ≡ true) (t : Tbl) (is_t : now_at T nothing (contents f) ≡ Some (Table t)) (b : Lines (message_ids t.table)) where
    -- the rows of messages
    abbrev rows : List (ℕ × List Val)
    rows = filter is_message_row t.table.rows

    ascend : keys_ascend (λ (M : Mes). M.nid) 0 b.messages ≡ true
    ascend =
        sym (map_ascends (λ (M : Mes). M.nid) 0 b.messages)
        ∙ ap (keys_ascend (λ k. k) 0) b.ids_are
        ∙ map_ascends (λ r. r.0) 0 rows
        ∙ filter-ascends (λ r. r.0) is_message_row 0 t.table.rows (w.rows_ascend (contents f) t is_t)

    -- a message that is shown is in the folder
    only_its : (m : ℕ) (M : Mes) → find_key (λ (N : Mes). N.nid) m b.messages ≡ Some M → (message_with T m ≡ Some M) × (M.folder ≡ f)
    only_its m M e =
        let there = b.there m M e in
        let row = there_is (find_row m rows) (sym (among m b.messages rows b.ids_are) ∙ ap is_some e) in
        let was_row = filter_found (λ r. r.0) is_message_row 0 m t.table.rows row.0 (w.rows_ascend (contents f) t is_t) row.1 in
        let four : m % 32 ≡ 4 = ap (λ x. x % 32) (sym (found_key (λ r. r.0) m t.table.rows row.0 was_row.0)) ∙ eqb-true (row.0.0 % 32) 4 was_row.1 in
        let v = w.listed f p t m found plain is_t (ap is_some was_row.0) four in
        (there, ap (λ (x : Mes). x.folder) (same_Some M v.0 (sym there ∙ was_message T m v.0 v.1)) ∙ v.2)

    -- a message in the folder is shown
    each_one : (m : ℕ) (M : Mes) → message_with T m ≡ Some M → M.folder ≡ f → find_key (λ (N : Mes). N.nid) m b.messages ≡ Some M
    each_one m M there folder =
        let is : now_at T nothing m ≡ Some (Message M) = ap (λ g. g m) (now_nothing T) ∙ is_message (object_at T m) M there in
        let four = (message_id m M (w.typed m (Message M) is)).0 in
        let v = w.held m M is in
        let same : t ≡ v.3.0 = same_table t v.3.0 (sym is_t ∙ ap (λ x. now_at T nothing (contents x)) (sym folder) ∙ v.3.1) in
        let row = there_is (find_row m t.table.rows) (subst (λ (x : Tbl). IsSome (find_row m x.table.rows)) (sym same) v.3.2) in
        let passes : is_message_row row.0 ≡ true = eq-eqb (row.0.0 % 32) 4 (ap (λ x. x % 32) (found_key (λ r. r.0) m t.table.rows row.0 row.1) ∙ four) in
        let now_row = filter_finds (λ r. r.0) is_message_row m t.table.rows row.0 row.1 passes in
        that_one m M (find_key (λ (N : Mes). N.nid) m b.messages) (among m b.messages rows b.ids_are ∙ ap is_some now_row) (b.there m) there

    -- the listing shows all
    shows : ShowsAll T f (map (line_of_folder T) (filter (is_child f) T.places) ++ map line_of_message b.messages)
    shows = record {
      folders = filter (is_child f) T.places;
      messages = b.messages;
      lines_are = refl;
      folders_ascend = filter-ascends place_id (is_child f) 0 T.places w.ascend;
      messages_ascend = ascend;
      each_folder = λ g r. (λ e. filter_found place_id (is_child f) 0 g T.places r w.ascend e, λ e. filter_finds place_id (is_child f) g T.places r e.0 e.1);
      each_message = λ m M. (λ e. only_its m M e, λ e. each_one m M e.0 e.1);
    }

  pub shows_all : (f : ℕ) (p : FolderPlace) → find_place f T.places ≡ Some p → is_plain p ≡ true → (shown : List DataLine) × (listing T f ≡ Ok (unchanged T (listed shown))) × ShowsAll T f shown
  unfolding listing
  shows_all f p found plain =
      let children = filter (is_child f) T.places in
      let a = folders_are 0 children (filter-ascends place_id (is_child f) 0 T.places w.ascend) (λ g r e. (filter_found place_id (is_child f) 0 g T.places r w.ascend e).0) in
      let t = messages_of w f p found plain in
      let b = messages_are (message_ids t.0.table) t.2 in
      (map (line_of_folder T) children ++ map line_of_message b.messages, rw (found, plain, a, t.1, b.lines_are) refl, shows f p found plain t.0 t.1 b)
