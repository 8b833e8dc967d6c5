-- Running searches show their lists rightly after all were settled.
use Rattle.std.proofs.Common.{◌≡◌, ◌∙◌, ℕ, ◌%◌, ◌==◌, ◌⊎◌, Bool, true, false, List, [], ◌∷◌, Option, Some, IfOk, ap, sym, refl, subst, inl, inr, arith, if◌then◌else◌}
use Rattle.std.specs.Option.{is_some}
use Rattle.std.proofs.lemmas.Bool.{cases_Bool, eq-eqb}
use Rattle.mapi_values.specs.Keyed.{keys_ascend}
use Rattle.mapi_values.specs.Messages.{Mes}
use Rattle.mapi_values.specs.Properties.{put}
use Rattle.mapi_values.specs.Tables.{find_row}
use Rattle.mapi_values.specs.Values.{Val}
use Rattle.mail_objects.specs.Forms.{Ctx, Tbl}
use Rattle.mail_objects.specs.declared.object.Object.{Object}
use Rattle.mail_objects.specs.declared.object.Object.TheVariants.{Context, Table}
use Rattle.mail_tree.specs.Changing.{Changed, as_message, hierarchy, newest, nothing, now_at}
use Rattle.mail_tree.specs.Folders.{Outcome}
use Rattle.mail_tree.specs.Step.{after, outcome}
use Rattle.mail_tree.specs.Tree.{Tree, object_at}
use Rattle.mail_tree.specs.Values.{text}
use Rattle.mail_tree.specs.Whole.{Fine}
use Rattle.mail_tree.proofs.AfterTree.{after_now, now_nothing}
use Rattle.mail_tree.proofs.KeyedFinds.{find-put_other}
use Rattle.mail_tree.proofs.KindsOfPuts.{beside_kind}
use Rattle.mail_laws.specs.Laws.{message_with}
use Rattle.mail_laws.specs.Stays.{IsSearchId, Leaves}
use Rattle.mail_laws.proofs.Keeping.{KeepsAt, both, from_fine, if_then}
use Rattle.mail_laws.proofs.KeptLaws.{leaves_searches}
use Rattle.mail_searches.specs.Searches.{IsFresh, Search, is_listed, results, runs}
use Rattle.mail_searches.specs.Searching.{AllFresh, Each}
use Rattle.mail_searches.specs.Relisting.{Around, Touch, around, before_those, concerns, named, relisted, settled_search, settled_searches, with_searches}
use Rattle.mail_searches.specs.Touching.{followed, touched}
use Rattle.search_lists.specs.Laws.{AllShow, AreApart, AreTouched, IsSearch, MirrorsList, MirrorsMessage, Settles, ShowsAfter, ShowsList, TellsCounts, TellsList, is_touched}
use Rattle.search_lists.proofs.CountLaws.{counts_anew}
use Rattle.search_lists.proofs.ListLaws.{are-rows}
use Rattle.search_lists.proofs.ResultSteps.{if_given}
use Rattle.search_lists.proofs.RowLaws.{relisted-shows, unchanged-same}
use Rattle.search_lists.proofs.SettleLaws.{SameMessages, SettlesOne, apart, are-searches, each, each-two, same_table, search-keeps, searches-keep, settles-one, settles_all}
use Rattle.search_lists.proofs.TouchLaws.{touches_all}

-- the same rows name the same messages, where each that they name is the same
pub same-named : (T T' : Tree) (D D' : Changed) (rows : List (ℕ × List Val)) → ((m : ℕ) → is_some (find_row m rows) ≡ true → as_message (now_at T' D' m) ≡ as_message (now_at T D m)) → named T' D' rows ≡ named T D rows
same-named T T' D D' [] same = refl
same-named T T' D D' (r ∷ rs) same =
    ap (λ o. before_those o (named T' D' rs)) (same r.0 (rw (eq-eqb r.0 r.0 refl) refl))
    ∙ ap (before_those (as_message (now_at T D r.0))) (same-named T T' D D' rs (λ m there. same m (later m (r.0 == m) there)))
  where
    later : (m : ℕ) (b : Bool) → is_some (find_row m rs) ≡ true → is_some (if b then Some r else find_row m rs) ≡ true
    later m true there = refl
    later m false there = there

-- What a search's folder tells is told by other values too.
pub record TellsAs (old : Option Object) (c : Ctx) : Type 0 where
  pub values : Ctx
  pub there : old ≡ Some (Context values)
  pub same : (ms : List Mes) → TellsCounts ms values.props → TellsCounts ms c.props

-- the same values tell the same
pub tells-same : (old : Option Object) (c : Ctx) → old ≡ Some (Context c) → TellsAs old c
tells-same old c there = record { values = c; there = there; same = λ ms told. told }

-- where a search's table and each message are the same its rows mirror them still
pub mirrors-still : (T T' : Tree) (D D' : Changed) (s : ℕ) → ((m : ℕ) → as_message (now_at T' D' m) ≡ as_message (now_at T D m)) → now_at T' D' (results s) ≡ now_at T D (results s) → MirrorsList T D s → MirrorsList T' D' s
mirrors-still T T' D D' s messages table mirrors t is m M e = mirrors t (sym table ∙ is) m M (sym (messages m) ∙ e)

-- and where its values tell the same they tell the counts still
pub tells-still : (T T' : Tree) (D D' : Changed) (s : ℕ) → ((m : ℕ) → as_message (now_at T' D' m) ≡ as_message (now_at T D m)) → now_at T' D' (results s) ≡ now_at T D (results s)
    → ((c : Ctx) → now_at T' D' s ≡ Some (Context c) → TellsAs (now_at T D s) c) → TellsList T D s → TellsList T' D' s
tells-still T T' D D' s messages table values tells c t at is =
    let told = values c at in
    subst (λ ms. TellsCounts ms c.props) (sym (same-named T T' D D' t.table.rows (λ m there. messages m))) (told.same (named T D t.table.rows) (tells told.values t told.there (sym table ∙ is)))

pub shows-still : (T T' : Tree) (D D' : Changed) (s : ℕ) → ((m : ℕ) → as_message (now_at T' D' m) ≡ as_message (now_at T D m)) → now_at T' D' (results s) ≡ now_at T D (results s)
    → ((c : Ctx) → now_at T' D' s ≡ Some (Context c) → TellsAs (now_at T D s) c) → ShowsList T D s → ShowsList T' D' s
shows-still T T' D D' s messages table values shows = record { mirrors = mirrors-still T T' D D' s messages table shows.mirrors; counts = tells-still T T' D D' s messages table values shows.counts }

same_context : (c k : Ctx) → ◌≡◌ {A = Option Object} (Some (Context c)) (Some (Context k)) → c ≡ k
same_context c k e = cc

-- values that tell what others told stand there now
pub tells-now-as : (old now : Option Object) (was is c : Ctx) → old ≡ Some (Context was) → ((ms : List Mes) → TellsCounts ms was.props → TellsCounts ms is.props) → now ≡ Some (Context is) → now ≡ Some (Context c) → TellsAs old c
tells-now-as old now was is c there more here at = record { values = was; there = there; same = λ ms told. subst (λ (k : Ctx). TellsCounts ms k.props) (same_context is c (sym here ∙ at)) (more ms told) }

-- a folder's name is none of its counts
pub tells-named : (ms : List Mes) (name : List ℕ) (props : List Val) → TellsCounts ms props → TellsCounts ms (put (text 0x3001 name) props)
tells-named ms name props told = record {
  messages = find-put_other (λ v. v.id) 0x3602 (text 0x3001 name) props (λ e. omega arith) ∙ told.messages;
  unread = find-put_other (λ v. v.id) 0x3603 (text 0x3001 name) props (λ e. omega arith) ∙ told.unread;
  folders = find-put_other (λ v. v.id) 0x360A (text 0x3001 name) props (λ e. omega arith) ∙ told.folders;
}

before : (T : Tree) (q : ℕ) → now_at T nothing q ≡ object_at T q
before T q = ap (λ at. at q) (now_nothing T)

-- the same in another tree
module _ (T T' : Tree) (s : ℕ) (messages : (m : ℕ) → as_message (object_at T' m) ≡ as_message (object_at T m)) (table : object_at T' (results s) ≡ object_at T (results s)) where
  messages-before : (m : ℕ) → as_message (now_at T' nothing m) ≡ as_message (now_at T nothing m)
  messages-before m = ap as_message (before T' m) ∙ messages m ∙ sym (ap as_message (before T m))

  table-before : now_at T' nothing (results s) ≡ now_at T nothing (results s)
  table-before = before T' (results s) ∙ table ∙ sym (before T (results s))

  pub tree-mirrors : MirrorsList T nothing s → MirrorsList T' nothing s
  tree-mirrors = mirrors-still T T' nothing nothing s messages-before table-before

  pub tree-tells : ((c : Ctx) → object_at T' s ≡ Some (Context c) → TellsAs (object_at T s) c) → TellsList T nothing s → TellsList T' nothing s
  tree-tells values = tells-still T T' nothing nothing s messages-before table-before (λ c at. subst (λ o. TellsAs o c) (sym (before T s)) (values c (sym (before T' s) ∙ at)))

  pub tree-shows : ((c : Ctx) → object_at T' s ≡ Some (Context c) → TellsAs (object_at T s) c) → ShowsList T nothing s → ShowsList T' nothing s
  tree-shows values shows = record { mirrors = tree-mirrors shows.mirrors; counts = tree-tells values shows.counts }

-- and where that tree stands after changes
pub after-shows : (T T' : Tree) (D : Changed) (s : ℕ) → ((q : ℕ) → object_at T' q ≡ now_at T D q) → ShowsList T D s → ShowsList T' nothing s
after-shows T T' D s now = shows-still T T' D nothing s
    (λ m. ap as_message (before T' m ∙ now m)) (before T' (results s) ∙ now (results s)) (λ c at. tells-same (now_at T D s) c (sym (before T' s ∙ now s) ∙ at))

module _ (T : Tree) (o : Outcome) (ts : List Touch) (touches : AreTouched T o ts) where
  abbrev d : Around
  d = around T o

  -- the nodes of the search are as they were before the command
  abbrev Waits : Changed → Search → Type 0
  Waits D s = (now_at T D (results s.nid) ≡ object_at T (results s.nid)) × (now_at T D s.nid ≡ object_at T s.nid)

  -- what is known of the search before the command
  pub record Stood (s : Search) : Type 0 where
    pub run : runs s ≡ true
    pub fresh : IsFresh T s
    pub shows : ShowsList T nothing s.nid

  abbrev Shows : Changed → Search → Type 0
  Shows D s = Stood s → ShowsList T D s.nid

  module _ (s : Search) (D : Changed) (search : IsSearch s) (same : SameMessages T o.changed D) (waits : Waits D s) (stood : Stood s) where
    abbrev t : Tbl
    t = stood.fresh.0

    there : now_at T D (results s.nid) ≡ Some (Table t)
    there = waits.0 ∙ stood.fresh.1

    rows-are : (keys_ascend (λ r. r.0) 0 t.table.rows ≡ true) × ((m : ℕ) → is_some (find_row m t.table.rows) ≡ is_listed T.places s (message_with T m))
    rows-are = are-rows T s t.table.rows stood.fresh.2

    -- each row mirrored its message
    mirrored : (m : ℕ) → MirrorsMessage t.table.columns t.table.rows m (message_with T m)
    mirrored m M e = stood.shows.mirrors t (before T (results s.nid) ∙ stood.fresh.1) m M (ap as_message (before T m) ∙ e)

    -- messages are those after the command
    message-now : (m : ℕ) → as_message (now_at T D m) ≡ message_with (after T o) m
    message-now m = same m ∙ ap (λ at. as_message (at m)) (after_now T o)

    -- rows mirror the messages after it
    mirror-now : (m : ℕ) → MirrorsMessage t.table.columns (relisted d s t.table.columns ts t.table.rows) m (message_with (after T o) m)
    mirror-now m = relisted-shows d s t.table.columns stood.run (message_with T) (message_with (after T o)) ts t.table.rows m touches.old touches.new touches.same rows-are.0
        (λ none M e. mirrored m M (sym (touches.stay m none) ∙ e)) (λ some. inl (rows-are.1 m, mirrored m))

    -- where no row changes each message that is listed is as it was
    message-stays : concerns d s ts ≡ false → (m : ℕ) → is_some (find_row m t.table.rows) ≡ true → as_message (now_at T D m) ≡ as_message (now_at T nothing m)
    message-stays none m listed = message-now m ∙ elim (cases_Bool (is_touched ts m)) [
      | inl some ↦ unchanged-same d s t.table.columns stood.run (message_with T) (message_with (after T o)) ts m touches.old touches.new touches.same (sym (rw stood.run refl) ∙ none) some (sym (rows-are.1 m) ∙ listed)
      | inr other ↦ touches.stay m other
    ] ∙ sym (ap as_message (before T m))

    -- so its values tell still what they told
    tells-unchanged : concerns d s ts ≡ false → TellsList T D s.nid
    tells-unchanged none c u at is =
        let was : now_at T nothing (results s.nid) ≡ Some (Table u) = before T (results s.nid) ∙ sym waits.0 ∙ is in
        let one : t ≡ u = same_table t u (sym there ∙ is) in
        subst (λ ms. TellsCounts ms c.props) (sym (same-named T T nothing D u.table.rows (λ m listed. message-stays none m (subst (λ (x : Tbl). is_some (find_row m x.table.rows) ≡ true) (sym one) listed))))
        (stood.shows.counts c u (before T s.nid ∙ sym waits.1 ∙ at) was)

    tells-now : IfOk (settled_search T d ts s D) (λ D'. TellsList T D' s.nid)
    unfolding settled_search
    tells-now = elim (cases_Bool (concerns d s ts)) [
      | inl y ↦ counts_anew T d ts s D t search there (rw (y, stood.run) refl)
      | inr n ↦ rw n (tells-unchanged n)
    ]

    shows-now : IfOk (settled_search T d ts s D) (λ D'. ShowsList T D' s.nid)
    shows-now = both (SettlesOne T d ts s D) (λ D'. TellsList T D' s.nid) (λ D'. ShowsList T D' s.nid) (settled_search T d ts s D) (settles-one T d ts s D search) tells-now (λ D' one tells. record {
      mirrors = λ u is m M e.
          let rows = relisted d s t.table.columns ts t.table.rows in
          let v : Tbl = record { parent = t.parent; table = record t.table { rows = rows } } in
          let is_v : v ≡ u = same_table v u (sym (one.table t there) ∙ is) in
          let shows : MirrorsMessage v.table.columns v.table.rows m (as_message (now_at T D' m)) = λ N e there. mirror-now m N (sym (one.messages m ∙ message-now m) ∙ e) there in
          subst (λ (x : Tbl). MirrorsMessage x.table.columns x.table.rows m (as_message (now_at T D' m))) is_v shows M e;
      counts = tells;
    })

  -- ---- all searches

  -- the nodes of this search
  abbrev Mine : Search → ℕ → Type 0
  Mine s q = (q ≡ s.nid) ⊎ (q ≡ results s.nid)

  -- those of other searches
  abbrev Others : Search → ℕ → Type 0
  Others s q = ((q % 32 ≡ 3) ⊎ (q % 32 ≡ 16)) × ((q ≡ s.nid → ⊥) × (q ≡ results s.nid → ⊥))

  mine-hierarchy : (s : Search) → IsSearch s → (g : ℕ) → Mine s (hierarchy g) → ⊥
  mine-hierarchy s is g (inl e) = omega (arith, e, is, beside_kind g 13 (omega arith))
  mine-hierarchy s is g (inr e) = omega (arith, e, beside_kind s.nid 16 (omega arith), beside_kind g 13 (omega arith))

  others-hierarchy : (s : Search) (g : ℕ) → Others s (hierarchy g) → ⊥
  others-hierarchy s g (inl e, n) = omega (arith, e, beside_kind g 13 (omega arith))
  others-hierarchy s g (inr e, n) = omega (arith, e, beside_kind g 13 (omega arith))

  -- the nodes of two searches are others
  two-apart : (s u : Search) → IsSearch s → IsSearch u → (u.nid ≡ s.nid → ⊥) → ((Mine s u.nid → ⊥) × (Mine s (results u.nid) → ⊥)) × (Others s u.nid × Others s (results u.nid))
  two-apart s u is us other =
      let sixteen = beside_kind s.nid 16 (omega arith) in
      let sixteen' = beside_kind u.nid 16 (omega arith) in
      let values : u.nid ≡ results s.nid → ⊥ = λ e. omega (arith, e, us, sixteen) in
      let list : results u.nid ≡ s.nid → ⊥ = λ e. omega (arith, e, is, sixteen') in
      let lists : results u.nid ≡ results s.nid → ⊥ = apart u.nid s.nid us is other in
      (((λ m. elim m [ inl e ↦ other e | inr e ↦ values e ]), (λ m. elim m [ inl e ↦ list e | inr e ↦ lists e ])), ((inl us, (other, values)), (inr sixteen', (list, lists))))

  pub settled-show : (ss : List Search) (D : Changed) → SameMessages T o.changed D → AreApart ss → Each (Waits D) ss → IfOk (settled_searches T d ts ss D) (λ D'. Each (Shows D') ss)
  settled-show [] D same a waits = tt
  settled-show (s ∷ ss) D same a waits =
      let Apart : Search → Type 0 = λ u. ((Mine s u.nid → ⊥) × (Mine s (results u.nid) → ⊥)) × (Others s u.nid × Others s (results u.nid)) in
      let aparts : Each Apart ss = each-two (λ u. u.nid ≡ s.nid → ⊥) (λ u. u.nid % 32 ≡ 3) Apart ss a.1 (are-searches ss a.2) (λ u other us. two-apart s u a.0 us other) in
      let One : Changed → Type 0 = λ D1. SettlesOne T d ts s D D1 × (KeepsAt (Others s) T D D1 × Shows D1 s) in
      let All : Changed → Type 0 = λ D'. Each (Shows D') (s ∷ ss) in
      if_then One All (settled_search T d ts s D) (settled_searches T d ts ss)
      (both (SettlesOne T d ts s D) (λ D1. KeepsAt (Others s) T D D1 × Shows D1 s) One (settled_search T d ts s D) (settles-one T d ts s D a.0)
      (both (KeepsAt (Others s) T D) (λ D1. Shows D1 s) (λ D1. KeepsAt (Others s) T D D1 × Shows D1 s) (settled_search T d ts s D)
      (search-keeps T (Others s) (others-hierarchy s) d ts s D (λ e. e.1.0 refl) (λ e. e.1.1 refl))
      (if_given (Stood s) (λ D1. ShowsList T D1 s.nid) (settled_search T d ts s D) (λ stood. shows-now s D a.0 same waits.0 stood))
      (λ D1 kept shows. (kept, shows))) (λ D1 one more. (one, more)))
      (λ D1 one.
      let waits1 : Each (Waits D1) ss = each-two Apart (Waits D) (Waits D1) ss aparts waits.1 (λ u far wait. (one.1.0 (results u.nid) far.1.1 ∙ wait.0, one.1.0 u.nid far.1.0 ∙ wait.1)) in
      let a' = settled_searches T d ts ss D1 in
      both (KeepsAt (Mine s) T D1) (λ D'. SameMessages T D1 D' × Each (Shows D') ss) All a'
      (searches-keep T (Mine s) (mine-hierarchy s a.0) d ts ss D1 (each Apart (λ u. (Mine s u.nid → ⊥) × (Mine s (results u.nid) → ⊥)) ss aparts (λ u far. far.0)))
      (both (Settles T d ts ss D1) (λ D'. Each (Shows D') ss) (λ D'. SameMessages T D1 D' × Each (Shows D') ss) a' (settles_all T d ts ss D1 a.2)
      (settled-show ss D1 (λ m. one.0.messages m ∙ same m) a.2 waits1) (λ D' st rest. (st.messages, rest)))
      (λ D' kept rest. (
        λ stood. shows-still T T D1 D' s.nid rest.0 (kept (results s.nid) (inr refl)) (λ c at. tells-same (now_at T D1 s.nid) c (sym (kept s.nid (inl refl)) ∙ at)) (one.1.1 stood),
        rest.1,
      )))

-- so do they after a command of the tree
pub all-shown : (T : Tree) (o : Outcome) (ts : List Touch) (ss : List Search) → AreTouched T o ts → Leaves T o → AreApart ss → AllFresh T ss → AllShow T ss → IfOk (with_searches T ss ts o) (λ o'. AllShow (after T o') ss)
all-shown T o ts ss touches leaves a fresh shows =
    let left : (q : ℕ) → IsSearchId q → now_at T o.changed q ≡ object_at T q = λ q of. ap (λ x. newest x (object_at T q)) (leaves.nodes q of) in
    if_then (λ D. Each (Shows T o ts touches D) ss) (λ o'. AllShow (after T o') ss) (settled_searches T (around T o) ts ss o.changed) _
    (settled-show T o ts touches ss o.changed (λ m. refl) a (each (λ s. s.nid % 32 ≡ 3) (Waits T o ts touches o.changed) ss (are-searches ss a) (λ s is. (left (results s.nid) (inr (inr (inr (beside_kind s.nid 16 (omega arith))))), left s.nid (inl is)))))
    (λ D all.
    let o' : Outcome = record o { changed = D } in
    each-two (λ s. (runs s ≡ true → IsFresh T s) × (runs s ≡ true → ShowsList T nothing s.nid)) (Shows T o ts touches D) (λ s. runs s ≡ true → ShowsList (after T o') nothing s.nid) ss
    (each-two (λ s. runs s ≡ true → IsFresh T s) (λ s. runs s ≡ true → ShowsList T nothing s.nid) (λ s. (runs s ≡ true → IsFresh T s) × (runs s ≡ true → ShowsList T nothing s.nid)) ss fresh shows (λ s f g. (f, g))) all
    (λ s old is run. after-shows T (after T o') D s.nid (λ q. ap (λ at. at q) (sym (after_now T o'))) (is (record { run = run; fresh = old.0 run; shows = old.1 run }))))

pub shows_after : ShowsAfter
shows_after T c ss w a fresh shows =
    both (λ o. Fine (touched T c o) (AreTouched T o)) (Leaves T) (λ o. IfOk (followed T ss c o) (λ o'. AllShow (after T o') ss)) (outcome T c) (touches_all T c w) (leaves_searches T c w)
    (λ o t l. if_then (AreTouched T o) (λ o'. AllShow (after T o') ss) (touched T c o) _ (from_fine (AreTouched T o) (touched T c o) t) (λ ts touches. all-shown T o ts ss touches l a fresh shows))
