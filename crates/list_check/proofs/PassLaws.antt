-- What one pass over the messages of a whole tree tells of the lists of searches.
use Rattle.std.proofs.Common.{◌≡◌, ◌∙◌, ℕ, suc, ◌%◌, ◌==◌, ◌++◌, Bool, true, false, not, List, [], ◌∷◌, filter, map, Option, None, Some, IsSome, is_some, Ok, Err, ap, sym, refl, subst, inl, inr, arith, if◌then◌else◌, ◌||◌}
use Rattle.std.specs.Prelude.{nat_le}
use Rattle.std.proofs.lemmas.Bool.{and_parts, cases_Bool, eq-eqb, eqb-true, false≢true, ne_eqb}
use Rattle.std.proofs.lemmas.Option.{none-some, same_Some}
use Rattle.mapi_values.specs.Keyed.{find_key, keys_ascend}
use Rattle.mapi_values.specs.Messages.{Mes}
use Rattle.mapi_values.specs.Tables.{find_row}
use Rattle.mapi_values.specs.Values.{Val}
use Rattle.mail_objects.specs.Forms.{Tbl}
use Rattle.mail_objects.specs.declared.object.Object.{Object}
use Rattle.mail_objects.specs.declared.object.Object.TheVariants.{Bare, Context, Message, Table}
use Rattle.mail_tree.specs.declared.places.FolderPlace.{FolderPlace}
use Rattle.mail_tree.specs.Changing.{Answer, ◌>>=◌, as_message, contents, known, as_table, nothing, now_at}
use Rattle.mail_tree.specs.Flags.{AreFlags, FlagList, known_flag}
use Rattle.mail_tree.specs.declared.note.Note.TheVariants.{Unread}
use Rattle.mail_tree.proofs.NoteLaws.{note_of_flag}
use Rattle.mail_tree.specs.Places.{find_place, is_plain, place_id}
use Rattle.mail_tree.specs.Settling.{is_message_row, message_ids}
use Rattle.mail_tree.specs.Tree.{Tree, object_at}
use Rattle.mail_tree.specs.Whole.{IsWhole}
use Rattle.mail_tree.proofs.AfterTree.{now_nothing}
use Rattle.mail_tree.proofs.KeyedFinds.{below}
use Rattle.mail_tree.proofs.KindsOfPuts.{same_table}
use Rattle.mail_tree.proofs.Nearly.{message_id}
use Rattle.mail_tree.proofs.Settles.{EachMessage, messages_of}
use Rattle.search_obj.specs.Scope.{is_among}
use Rattle.mail_searches.specs.Searches.{IsFresh, KnowsMessages, Search, find_search, is_found, is_listed, results, row_ids, runs, search_id}
use Rattle.mail_searches.specs.Searching.{AllFresh, AreSearches, Each, Searching}
use Rattle.search_lists.proofs.ListLaws.{are-rows, row-among, rows-are}
use Rattle.list_check.specs.Watching.{Watch, are_known, differs, or_else, rows_at, stale_among, stale_at, stale_below, stale_in, stale_listed, stale_of, stray_of, watched, with_search}

-- ---- lists

each-both : {X : Type 0} (P : X → Type 0) (xs ys : List X) → Each P xs → Each P ys → Each P (xs ++ ys)
each-both P [] ys a b = b
each-both P (x ∷ xs) ys a b = (a.0, each-both P xs ys a.1 b)

each-parts : {X : Type 0} (P : X → Type 0) (xs ys : List X) → Each P (xs ++ ys) → Each P xs × Each P ys
each-parts P [] ys a = (tt, a)
each-parts P (x ∷ xs) ys a = let p = each-parts P xs ys a.1 in ((a.0, p.0), p.1)

-- each element of a list that ascends is found in it
abbrev EachFound : {X : Type 0} → (X → ℕ) → List X → List X → Type 0
EachFound key zs xs = Each (λ x. find_key key (key x) zs ≡ Some x) xs

behind : {X : Type 0} (key : X → ℕ) (x : X) (zs xs : List X) → keys_ascend key (suc (key x)) zs ≡ true → EachFound key zs xs → EachFound key (x ∷ zs) xs
behind key x zs [] a each = tt
behind key x zs (y ∷ ys) a each =
    let other : key x ≡ key y → ⊥ = λ e. none-some y (sym (below key (suc (key x)) (key y) zs a (omega arith)) ∙ each.0) in
    (rw (ne_eqb (key x) (key y) other) each.0, behind key x zs ys a each.1)

pub each-found : {X : Type 0} (key : X → ℕ) (low : ℕ) (xs : List X) → keys_ascend key low xs ≡ true → EachFound key xs xs
each-found key low [] a = tt
each-found key low (x ∷ xs) a =
    let p = and_parts (nat_le low (key x)) (keys_ascend key (suc (key x)) xs) a in
    (rw (eq-eqb (key x) (key x) refl) refl, behind key x xs xs p.1 (each-found key (suc (key x)) xs p.1))

-- what is found is one of them, and has the key
each-at : {X : Type 0} (key : X → ℕ) (P : X → Type 0) (k : ℕ) (x : X) (xs : List X) → find_key key k xs ≡ Some x → Each P xs → P x × (key x ≡ k)
each-at key P k x [] e each = absurd (none-some x e)
each-at key P k x (y ∷ ys) e each = elim (cases_Bool (key y == k)) [
  | inl t ↦ let same : y ≡ x = same_Some y x (sym (rw t refl) ∙ e) in (subst P same each.0, ap key (sym same) ∙ eqb-true (key y) k t)
  | inr f ↦ each-at key P k x ys (sym (rw f refl) ∙ e) each.1
]

-- the row of a message gives its id
each-row : (P : ℕ → Type 0) (rows : List (ℕ × List Val)) (k : ℕ) → k % 32 ≡ 4 → IsSome (find_row k rows) → Each P (map (λ r. r.0) (filter is_message_row rows)) → P k
each-row P [] k four some each = absurd (false≢true some)
each-row P (r ∷ rows) k four some each = elim (cases_Bool (r.0 == k)) [
  | inl t ↦
      let e : r.0 ≡ k = eqb-true r.0 k t in
      let is : is_message_row r ≡ true = eq-eqb (r.0 % 32) 4 (ap (λ x. x % 32) e ∙ four) in
      subst P e (rw is at each).0
  | inr f ↦ each-row P rows k four (subst IsSome (rw f refl) some) (rest (is_message_row r) each)
]
  where
    rest : (b : Bool) → Each P (map (λ r. r.0) (if b then r ∷ filter is_message_row rows else filter is_message_row rows)) → Each P (map (λ r. r.0) (filter is_message_row rows))
    rest true each = each.1
    rest false each = each

-- ---- what stands at an id

table-now : (T : Tree) (q : ℕ) (t : Tbl) → object_at T q ≡ Some (Table t) → known (as_table (now_at T nothing q)) ≡ Ok t
table-now T q t at = ap (λ o. known (as_table o)) (ap (λ g. g q) (now_nothing T) ∙ at)

message-now : (T : Tree) (q : ℕ) (M : Mes) → object_at T q ≡ Some (Message M) → known (as_message (now_at T nothing q)) ≡ Ok M
message-now T q M at = ap (λ o. known (as_message o)) (ap (λ g. g q) (now_nothing T) ∙ at)

message-is : (o : Option Object) (M : Mes) → as_message o ≡ Some M → o ≡ Some (Message M)
message-is None M e = absurd (none-some M e)
message-is (Some (Message m)) M e = ap (λ x. Some (Message x)) (same_Some m M e)
message-is (Some (Context c)) M e = absurd (none-some M e)
message-is (Some (Table t)) M e = absurd (none-some M e)
message-is (Some (Bare parent)) M e = absurd (none-some M e)

-- ---- the pass

agrees : (listed found : Bool) → (if listed then not found else found) ≡ false → listed ≡ found
agrees true true e = refl
agrees true false e = absurd (false≢true (sym e))
agrees false true e = sym e
agrees false false e = refl

apart : (listed found : Bool) → (if listed then not found else found) ≡ true → listed ≡ found → ⊥
apart true true e same = false≢true e
apart true false e same = false≢true (sym same)
apart false true e same = false≢true same
apart false false e same = false≢true e

module _ (X : Searching) (w : IsWhole X.tree) (a : AreSearches X) where
  abbrev T : Tree
  T = X.tree

  -- a running search of the tree, with the ids of the rows of its list
  abbrev pub IsWatched : Watch → Type 0
  IsWatched v = (t : Tbl) × (object_at T (results (search_id v.0)) ≡ Some (Table t)) × (v.1 ≡ row_ids t.table.rows) × (find_search (search_id v.0) X.searches ≡ Some v.0) × (runs v.0 ≡ true)

  -- it lists the message just where it is to
  abbrev pub Agrees : ℕ → Watch → Type 0
  Agrees m v = is_among v.1 m ≡ is_listed T.places v.0 (as_message (object_at T m))

  abbrev pub FreshWatch : Watch → Type 0
  FreshWatch v = IsFresh T v.0

  -- the list of the search isn't as it is to be: it doesn't agree on a message
  abbrev pub Stale : ℕ → Type 0
  Stale f = (v : Watch) × IsWatched v × (search_id v.0 ≡ f) × (m : ℕ) × (Agrees m v → ⊥)

  -- one is told whose list isn't as it is to be, or else this holds
  abbrev pub Told : Type 0 → Option ℕ → Type 0
  Told A None = A
  Told A (Some f) = Stale f

  abbrev pub Tells : Type 0 → Answer (Option ℕ) → Type 0
  Tells A (Ok stale) = Told A stale
  Tells A (Err e) = ⊥

  told-more : (A B : Type 0) (o : Option ℕ) → Told A o → (A → B) → Told B o
  told-more A B None told more = more told
  told-more A B (Some f) told more = told

  tells-more : (A B : Type 0) (o : Answer (Option ℕ)) → Tells A o → (A → B) → Tells B o
  tells-more A B (Ok o) tells more = told-more A B o tells more
  tells-more A B (Err e) tells more = tells

  tells-both : (A B : Type 0) (one rest : Answer (Option ℕ)) → Tells A one → Tells B rest → Tells (A × B) (one >>= λ stale. or_else stale rest)
  tells-both A B (Ok None) rest first next = tells-more B (A × B) rest next (λ b. (first, b))
  tells-both A B (Ok (Some f)) rest first next = first
  tells-both A B (Err e) rest first next = first

  -- one message
  agreed : (m : ℕ) (M : Mes) (v : Watch) → object_at T m ≡ Some (Message M) → is_listed T.places v.0 (as_message (object_at T m)) ≡ is_found T.places v.0 M
  agreed m M v at = ap (λ o. is_listed T.places v.0 (as_message o)) at

  stale-of : (m : ℕ) (M : Mes) (vs : List Watch) → object_at T m ≡ Some (Message M) → Each IsWatched vs → Told (Each (Agrees m) vs) (stale_of T.places vs m M)
  stale-of m M [] at each = tt
  stale-of m M (v ∷ vs) at each = elim (cases_Bool (differs T.places v m M)) [
    | inl t ↦ rw t (v, each.0, refl, m, λ e. apart (is_among v.1 m) (is_found T.places v.0 M) t (e ∙ agreed m M v at))
    | inr f ↦ rw f (told-more (Each (Agrees m) vs) (Each (Agrees m) (v ∷ vs)) (stale_of T.places vs m M) (stale-of m M vs at each.1)
        (λ rest. (agrees (is_among v.1 m) (is_found T.places v.0 M) f ∙ sym (agreed m M v at), rest)))
  ]

  module _ (vs : List Watch) (each : Each IsWatched vs) where
    stale-at : (m : ℕ) (M : Mes) → object_at T m ≡ Some (Message M) → Tells (Each (Agrees m) vs) (stale_at T vs m)
    unfolding stale_at
    stale-at m M at = subst (λ x. Tells (Each (Agrees m) vs) (x >>= λ M. Ok (stale_of T.places vs m M))) (sym (message-now T m M at)) (stale-of m M vs at each)

    -- some messages
    stale-among : (ms : List ℕ) → EachMessage (object_at T) ms → Tells (Each (λ m. Each (Agrees m) vs) ms) (stale_among T vs ms)
    stale-among [] there = tt
    stale-among (m ∷ ms) there = tells-both (Each (Agrees m) vs) (Each (λ m. Each (Agrees m) vs) ms) (stale_at T vs m) (stale_among T vs ms) (stale-at m there.0.0 there.0.1) (stale-among ms there.1)

    -- all messages of a plain folder's table agree
    abbrev pub Seen : FolderPlace → Type 0
    Seen p = is_plain p ≡ true → (t : Tbl) × (object_at T (contents (place_id p)) ≡ Some (Table t)) × Each (λ m. Each (Agrees m) vs) (message_ids t.table)

    stale-in : (p : FolderPlace) → find_place (place_id p) T.places ≡ Some p → Tells (Seen p) (stale_in T vs p)
    unfolding stale_in stale_listed
    stale-in p found = by-sort (is_plain p) refl
      where
        by-sort : (b : Bool) → is_plain p ≡ b → Tells (Seen p) (if b then stale_listed T vs (place_id p) else Ok None)
        by-sort true plain =
            let table = messages_of w.objects (place_id p) p found plain in let t = table.0 in let ms = message_ids t.table in
            subst (λ x. Tells (Seen p) (x >>= λ t. stale_among T vs (message_ids t.table))) (sym (table-now T (contents (place_id p)) t table.1))
            (tells-more (Each (λ m. Each (Agrees m) vs) ms) (Seen p) (stale_among T vs ms) (stale-among ms table.2) (λ seen plain. (t, table.1, seen)))
        by-sort false foreign = λ plain. absurd (false≢true (sym foreign ∙ plain))

    pub stale-below : (ps : List FolderPlace) → EachFound place_id T.places ps → Tells (Each Seen ps) (stale_below T vs ps)
    stale-below [] found = tt
    stale-below (p ∷ ps) found = tells-both (Seen p) (Each Seen ps) (stale_in T vs p) (stale_below T vs ps) (stale-in p found.0) (stale-below ps found.1)

    -- each message of the tree is in a plain folder, whose table lists it
    pub all-agree : Each Seen T.places → (m : ℕ) (M : Mes) → object_at T m ≡ Some (Message M) → Each (Agrees m) vs
    all-agree seen m M at =
        let home = w.objects.held m M at in let row = home.3 in
        let here = each-at place_id Seen M.folder home.0 T.places home.1 seen in
        let table = here.0 home.2 in
        let same : row.0 ≡ table.0 = same_table row.0 table.0 (sym row.1 ∙ (ap (λ f. object_at T (contents f)) (sym here.1) ∙ table.1)) in
        each-row (λ m. Each (Agrees m) vs) table.0.table.rows m (message_id m M (w.objects.typed m (Message M) at)).0 (subst (λ (x : Tbl). IsSome (find_row m x.table.rows)) same row.2) table.2

  -- ---- what a list is to be

  -- each row of the list names a message
  abbrev pub Names : Watch → Type 0
  Names v = (m : ℕ) → is_among v.1 m ≡ true → IsSome (as_message (object_at T m))

  -- a list whose rows name messages, and that agrees on each message, is as it is to be
  fresh-one : (v : Watch) → IsWatched v → Names v → ((m : ℕ) (M : Mes) → object_at T m ≡ Some (Message M) → Agrees m v) → FreshWatch v
  fresh-one v is names agree =
      let t = is.0 in let f = search_id v.0 in
      (t, is.1, rows-are T v.0 t.table.rows (w.objects.rows_ascend (results f) t is.1) (λ m. at-each m (as_message (object_at T m)) refl))
    where
      at-each : (m : ℕ) (o : Option Mes) → as_message (object_at T m) ≡ o → is_some (find_row m is.0.table.rows) ≡ is_listed T.places v.0 (as_message (object_at T m))
      at-each m (Some M) e = sym (row-among is.0.table.rows m) ∙ ap (λ ids. is_among ids m) (sym is.2) ∙ agree m M (message-is (object_at T m) M e)
      at-each m None e = elim (cases_Bool (is_some (find_row m is.0.table.rows))) [
        | inl there ↦ absurd (false≢true (sym (ap is_some e) ∙ names m (ap (λ ids. is_among ids m) is.2 ∙ row-among is.0.table.rows m ∙ there)))
        | inr none ↦ none ∙ sym (ap (is_listed T.places v.0) e)
      ]

  pub fresh-each : (vs : List Watch) → Each IsWatched vs → Each Names vs → ((m : ℕ) (M : Mes) → object_at T m ≡ Some (Message M) → Each (Agrees m) vs) → Each FreshWatch vs
  fresh-each [] each names agree = tt
  fresh-each (v ∷ vs) each names agree = (fresh-one v each.0 names.0 (λ m M at. (agree m M at).0), fresh-each vs each.1 names.1 (λ m M at. (agree m M at).1))

  -- ---- rows that name no message

  module _ (flags : FlagList) (are : AreFlags (object_at T) flags) (all : KnowsMessages T flags) where
    -- of what something is known it is a message
    message-known : (m : ℕ) → is_some (known_flag m flags) ≡ true → IsSome (as_message (object_at T m))
    message-known m e = go (known_flag m flags) refl e
      where
        go : (o : Option Bool) → known_flag m flags ≡ o → is_some o ≡ true → IsSome (as_message (object_at T m))
        go None here e = absurd (false≢true e)
        go (Some unread) here e = let k = are m (Unread unread) (note_of_flag m flags unread here) in rw k.1 refl

    -- one of which nothing is known is none
    stray-stale : (v : Watch) (m : ℕ) → IsWatched v → is_among v.1 m ≡ true → is_some (known_flag m flags) ≡ false → Agrees m v → ⊥
    stray-stale v m is among none agree = go (as_message (object_at T m)) refl
      where
        go : (o : Option Mes) → as_message (object_at T m) ≡ o → ⊥
        go None e = false≢true (sym (ap (is_listed T.places v.0) e) ∙ sym agree ∙ among)
        go (Some M) e = false≢true (sym none ∙ all m (ap is_some e))

    among-known : (ids : List ℕ) → are_known flags ids ≡ true → (m : ℕ) → is_among ids m ≡ true → is_some (known_flag m flags) ≡ true
    among-known [] k m among = absurd (false≢true among)
    among-known (x ∷ xs) k m among =
        let p = and_parts (is_some (known_flag x flags)) (are_known flags xs) k in
        elim (cases_Bool (x == m)) [
          | inl e ↦ ap (λ y. is_some (known_flag y flags)) (sym (eqb-true x m e)) ∙ p.0
          | inr n ↦ among-known xs p.1 m (sym (rw n refl) ∙ among)
        ]

    one-unknown : (ids : List ℕ) → are_known flags ids ≡ false → (m : ℕ) × (is_among ids m ≡ true) × (is_some (known_flag m flags) ≡ false)
    one-unknown [] k = absurd (false≢true (sym k))
    one-unknown (x ∷ xs) k = elim (cases_Bool (is_some (known_flag x flags))) [
      | inr none ↦ (x, rw (eq-eqb x x refl) refl, none)
      | inl some ↦
          let rest = one-unknown xs (sym (rw some refl) ∙ k) in
          (rest.0, later (x == rest.0) rest.1, rest.2)
    ]
      where
        later : (b : Bool) {c : Bool} → c ≡ true → (b || c) ≡ true
        later true e = refl
        later false e = e

    -- a search is told whose list has a row that names no message, or all rows do
    pub strays-told : (vs : List Watch) → Each IsWatched vs → Told (Each Names vs) (stray_of flags vs)
    strays-told [] each = tt
    strays-told (v ∷ vs) each = elim (cases_Bool (are_known flags v.1)) [
      | inr unknown ↦ let m = one-unknown v.1 unknown in rw unknown (v, each.0, refl, m.0, stray-stale v m.0 each.0 m.1 m.2)
      | inl known ↦ rw known (told-more (Each Names vs) (Each Names (v ∷ vs)) (stray_of flags vs) (strays-told vs each.1) (λ rest. ((λ m among. message-known m (among-known v.1 known m among)), rest)))
    ]

  -- a list that is as it is to be agrees on each id
  pub fresh-agrees : (v : Watch) (m : ℕ) → IsWatched v → FreshWatch v → Agrees m v
  fresh-agrees v m is fresh =
      let same : fresh.0 ≡ is.0 = same_table fresh.0 is.0 (sym fresh.1 ∙ is.1) in
      let rows = are-rows T v.0 is.0.table.rows (ap (λ (x : Tbl). row_ids x.table.rows) (sym same) ∙ fresh.2) in
      ap (λ ids. is_among ids m) is.2 ∙ row-among is.0.table.rows m ∙ rows.1 m

  -- ---- the searches that run

  -- All of these run, and are those before and those of some searches that run.
  pub record Watches (acc : List Watch) (ss : List Search) : Type 0 where
    pub all : List Watch
    pub is : watched T acc ss ≡ Ok all
    pub each : Each IsWatched all
    pub fresh : Each FreshWatch all → Each FreshWatch acc × AllFresh T ss

  pub watches : (ss : List Search) (acc : List Watch) → EachFound search_id X.searches ss → Each IsWatched acc → Watches acc ss
  unfolding with_search rows_at
  watches [] acc found each = record { all = acc; is = refl; each = each; fresh = λ fresh. (fresh, tt) }
  watches (s ∷ ss) acc found each = elim (cases_Bool (runs s)) [
    | inl run ↦
        let t = a.tables (search_id s) (a.among (search_id s) s found.0) in
        let v : Watch = (s, row_ids t.0.table.rows) in let more = acc ++ (v ∷ []) in
        let rest = watches ss more found.1 (each-both IsWatched acc (v ∷ []) each ((t.0, t.1, refl, found.0, run), tt)) in
        record {
          all = rest.all;
          is = rw (run, table-now T (results s.nid) t.0 t.1) rest.is;
          each = rest.each;
          fresh = λ fresh. let both = rest.fresh fresh in let parts = each-parts FreshWatch acc (v ∷ []) both.0 in (parts.0, ((λ r. parts.1.0), both.1));
        }
    | inr not ↦
        let rest = watches ss acc found.1 each in
        record {
          all = rest.all;
          is = rw not rest.is;
          each = rest.each;
          fresh = λ fresh. let both = rest.fresh fresh in (both.0, ((λ r. absurd (false≢true (sym not ∙ r))), both.1));
        }
  ]
