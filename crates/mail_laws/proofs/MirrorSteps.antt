-- Steps after which rows show what they name.
use Rattle.std.proofs.Common.{◌≡◌, ℕ, ◌%◌, ◌<◌, ◌==◌, List, length, Option, Some, IfOk, arith, refl, sym, subst, ◌∙◌, ◌⊎◌, inl, inr}
use Rattle.std.specs.List.{list_any}
use Rattle.std.proofs.lemmas.Bool.{cases_Bool, eqb-true}
use Rattle.mapi_values.specs.Messages.{Mes}
use Rattle.mapi_values.specs.Tables.{mirror, drop_row}
use Rattle.mapi_values.specs.Values.{Val}
use Rattle.mail_objects.specs.Forms.{Ctx, Tbl}
use Rattle.mail_objects.specs.declared.object.Object.{Object}
use Rattle.mail_objects.specs.declared.object.Object.TheVariants.{Context, Table, Message}
use Rattle.mail_tree.specs.declared.places.FolderPlace.{FolderPlace}
use Rattle.mail_tree.specs.Places.{ROOT, is_child}
use Rattle.mail_tree.specs.Tree.{Tree}
use Rattle.mail_tree.specs.Values.{with_counts}
use Rattle.mail_tree.specs.Changing.{Answer, Changed, ◌>>=◌, add_shown, contents, context_at, drop_shown, hierarchy, now_at, overfills, put_shown, shown_row, table_at, with_object, with_rows}
use Rattle.mail_tree.specs.Settling.{counted, message_ids, mirrored, table_as_is, settled, unread_among, with_context}
use Rattle.mail_laws.specs.Laws.{Shows}
use Rattle.mail_tree.proofs.AfterTree.{puts_object}
use Rattle.mail_tree.proofs.KeyedFinds.{find-put_other, find-put_same, find-drop_other}
use Rattle.mail_laws.proofs.Keeping.{if_any, if_then, if_weaker}
use Rattle.mail_laws.proofs.Touches.{if_table, table_same}
use Rattle.mail_tree.proofs.KindsOfPuts.{beside_kind}
use Rattle.mail_laws.proofs.MirrorPuts.{AreShownBut, FolderIds, closes, shown_put, shown_rows}
use Rattle.mail_tree.proofs.Nearly.{Puts}

module _ (T : Tree) where
  module _ (places : List FolderPlace) (ids : FolderIds places) where
    -- rows show what they name, but for one id
    abbrev pub ShownBut : ℕ → Changed → Type 0
    ShownBut e D = AreShownBut (λ x. x ≡ e) places (now_at T D)

    abbrev pub Shown : Changed → Type 0
    Shown D = AreShownBut (λ x. ⊥) places (now_at T D)

    -- what a row that is put shows
    row_shown : (D : Changed) (q id : ℕ) (t : Tbl) (props : List Val) → 4 < q % 32 → ShownBut id D → now_at T D q ≡ Some (Table t) → (at' : ℕ → Option Object) → Puts (now_at T D) at' q (Some (with_rows (shown_row id props t.table) t))
        → AreShownBut (λ x. x ≡ id) places at' × Shows (at' q) id props
    row_shown D q id t props high s is at' puts =
        let row : ℕ × List Val = (id, mirror t.table.columns props) in
        let t' : Tbl = record { parent = t.parent; table = record t.table { rows = shown_row id props t.table } } in (
          shown_rows (λ x. x ≡ id) places (now_at T D) at' q t t' s ids high is puts refl (λ k other. find-put_other (λ r. r.0) k row t.table.rows other),
          (t', puts.here, find-put_same (λ r. r.0) row t.table.rows),
        )

    folder_closes : (D : Changed) (f : ℕ) (c : Ctx) (t : Tbl) (D' : Changed) → (f % 32 ≡ 2) ⊎ (f % 32 ≡ 3) → ShownBut f D → now_at T D f ≡ Some (Context c) → now_at T D (hierarchy c.parent) ≡ Some (Table t)
        → Puts (now_at T D) (now_at T D') (hierarchy c.parent) (Some (with_rows (shown_row f c.props t.table) t)) → Shown D'
    folder_closes D f c t D' kind s is is_t puts =
        let table_kind = beside_kind c.parent 13 (omega arith) in
        let apart : f ≡ hierarchy c.parent → ⊥ = λ e. elim kind [ inl k ↦ omega arith | inr k ↦ omega arith ] in
        let stays : now_at T D' f ≡ Some (Context c) = puts.others f apart ∙ is in
        let r = row_shown D (hierarchy c.parent) f t c.props (omega arith) s is_t (now_at T D') puts in
        closes f places (now_at T D') r.0
        (λ p c' e no_root is'. let same : c ≡ c' = cc in subst (λ x. Shows (now_at T D' (hierarchy x.parent)) f x.props) same r.1)
        (λ M is'. cc (sym stays ∙ is'))

    message_closes : (D : Changed) (m : ℕ) (M : Mes) (t : Tbl) (D' : Changed) → m % 32 ≡ 4 → ShownBut m D → now_at T D m ≡ Some (Message M) → now_at T D (contents M.folder) ≡ Some (Table t)
        → Puts (now_at T D) (now_at T D') (contents M.folder) (Some (with_rows (shown_row m M.props t.table) t)) → Shown D'
    message_closes D m M t D' four s is is_t puts =
        let table_kind = beside_kind M.folder 14 (omega arith) in
        let apart : m ≡ contents M.folder → ⊥ = λ e. omega arith in
        let stays : now_at T D' m ≡ Some (Message M) = puts.others m apart ∙ is in
        let r = row_shown D (contents M.folder) m t M.props (omega arith) s is_t (now_at T D') puts in
        closes m places (now_at T D') r.0
        (λ p c e no_root is'. cc (sym stays ∙ is'))
        (λ N is'. let same : M ≡ N = cc in subst (λ x. Shows (now_at T D' (contents x.folder)) m x.props) same r.1)

    pub put_folder : (D : Changed) (f : ℕ) (c : Ctx) → (f % 32 ≡ 2) ⊎ (f % 32 ≡ 3) → ShownBut f D → now_at T D f ≡ Some (Context c) → IfOk (put_shown T (hierarchy c.parent) f c.props D) Shown
    unfolding put_shown
    put_folder D f c kind s is = if_then (λ t. now_at T D (hierarchy c.parent) ≡ Some (Table t)) Shown (table_at T D (hierarchy c.parent)) _ (if_table T D (hierarchy c.parent))
        (λ t is_t. folder_closes D f c t (with_object (hierarchy c.parent) (Some (with_rows (shown_row f c.props t.table) t)) D) kind s is is_t (puts_object T D (hierarchy c.parent) (Some (with_rows (shown_row f c.props t.table) t))))

    pub add_folder : (D : Changed) (f : ℕ) (c : Ctx) → (f % 32 ≡ 2) ⊎ (f % 32 ≡ 3) → ShownBut f D → now_at T D f ≡ Some (Context c) → IfOk (add_shown T (hierarchy c.parent) f c.props D) Shown
    unfolding add_shown
    add_folder D f c kind s is = if_then (λ t. now_at T D (hierarchy c.parent) ≡ Some (Table t)) Shown (table_at T D (hierarchy c.parent)) _ (if_table T D (hierarchy c.parent))
        (λ t is_t. elim (cases_Bool (overfills t.table.rows (shown_row f c.props t.table))) [
          | inl b ↦ rw b tt
          | inr b ↦ rw b (folder_closes D f c t (with_object (hierarchy c.parent) (Some (with_rows (shown_row f c.props t.table) t)) D) kind s is is_t (puts_object T D (hierarchy c.parent) (Some (with_rows (shown_row f c.props t.table) t))))
        ])

    pub put_message : (D : Changed) (m : ℕ) (M : Mes) → m % 32 ≡ 4 → ShownBut m D → now_at T D m ≡ Some (Message M) → IfOk (put_shown T (contents M.folder) m M.props D) Shown
    unfolding put_shown
    put_message D m M four s is = if_then (λ t. now_at T D (contents M.folder) ≡ Some (Table t)) Shown (table_at T D (contents M.folder)) _ (if_table T D (contents M.folder))
        (λ t is_t. message_closes D m M t (with_object (contents M.folder) (Some (with_rows (shown_row m M.props t.table) t)) D) four s is is_t (puts_object T D (contents M.folder) (Some (with_rows (shown_row m M.props t.table) t))))

    pub add_message : (D : Changed) (m : ℕ) (M : Mes) → m % 32 ≡ 4 → ShownBut m D → now_at T D m ≡ Some (Message M) → IfOk (add_shown T (contents M.folder) m M.props D) Shown
    unfolding add_shown
    add_message D m M four s is = if_then (λ t. now_at T D (contents M.folder) ≡ Some (Table t)) Shown (table_at T D (contents M.folder)) _ (if_table T D (contents M.folder))
        (λ t is_t. elim (cases_Bool (overfills t.table.rows (shown_row m M.props t.table))) [
          | inl b ↦ rw b tt
          | inr b ↦ rw b (message_closes D m M t (with_object (contents M.folder) (Some (with_rows (shown_row m M.props t.table) t)) D) four s is is_t (puts_object T D (contents M.folder) (Some (with_rows (shown_row m M.props t.table) t))))
        ])

    -- a row that needn't show anything goes
    pub drop_one : (D : Changed) (q id : ℕ) → 4 < q % 32 → ShownBut id D → IfOk (drop_shown T q id D) (λ D'. ShownBut id D' × ((x : ℕ) → (x ≡ q → ⊥) → now_at T D' x ≡ now_at T D x))
    unfolding drop_shown
    drop_one D q id high s = if_then (λ t. now_at T D q ≡ Some (Table t)) _ (table_at T D q) _ (if_table T D q) (λ t is_t.
        let t' : Tbl = record { parent = t.parent; table = record t.table { rows = drop_row id t.table.rows } } in
        let puts = puts_object T D q (Some (with_rows (drop_row id t.table.rows) t)) in
        (shown_rows (λ x. x ≡ id) places (now_at T D) _ q t t' s ids high is_t puts refl (λ k other. find-drop_other (λ r. r.0) k id t.table.rows other), puts.others))

    -- a folder that gets other values needn't be shown
    pub context_opens : (D : Changed) (f : ℕ) (c : Ctx) (props : List Val) → (f % 32 ≡ 2) ⊎ (f % 32 ≡ 3) → Shown D → ShownBut f (with_context f c props D) × (now_at T (with_context f c props D) f ≡ Some (Context (record c { props = props })))
    context_opens D f c props kind s =
        let puts = puts_object T D f (Some (Context (record c { props = props }))) in (
          shown_put (λ x. ⊥) (λ x. x ≡ f) places (now_at T D) _ f (Some (Context (record c { props = props }))) s (λ x e. absurd e) puts
              (λ e. elim kind [ inl k ↦ omega arith | inr k ↦ omega arith ]) (λ e. elim kind [ inl k ↦ omega arith | inr k ↦ omega arith ]) (λ p e. refl) (λ M e. refl),
          puts.here,
        )

    pub mirrored_shows : (D : Changed) (f : ℕ) (c : Ctx) → (f % 32 ≡ 2) ⊎ (f % 32 ≡ 3) → ShownBut f D → now_at T D f ≡ Some (Context c) → IfOk (mirrored T f D) Shown
    unfolding mirrored
    mirrored_shows D f c kind s is = elim (cases_Bool (f == ROOT)) [
      | inl b ↦
          let shown : Shown D = closes f places (now_at T D) s (λ p c e no_root is'. absurd (no_root (eqb-true f ROOT b))) (λ M is'. cc (sym is ∙ is')) in
          rw b (if_weaker (λ D'. now_at T D' ≡ now_at T D) Shown (table_as_is T (hierarchy ROOT) D) (table_same T (hierarchy ROOT) D) (λ D' same. subst (AreShownBut (λ x. ⊥) places) (sym same) shown))
      | inr b ↦ rw (b, is) (put_folder D f c kind s is)
    ]

    pub settled_shows : (D : Changed) (f : ℕ) → (f % 32 ≡ 2) ⊎ (f % 32 ≡ 3) → Shown D → IfOk (settled T places f D) Shown
    unfolding settled counted
    settled_shows D f kind s =
        if_then (λ D'. ShownBut f D' × ((c : Ctx) × (now_at T D' f ≡ Some (Context c)))) Shown (counted T places f D) (mirrored T f)
        (if_then (λ c. Unit {0}) _ (context_at T D f) _ (if_any (context_at T D f)) (λ c u.
        if_then (λ t. Unit {0}) _ (table_at T D (contents f)) _ (if_any (table_at T D (contents f))) (λ t u.
        if_then (λ n. Unit {0}) _ (unread_among T D (message_ids t.table)) _ (if_any (unread_among T D (message_ids t.table))) (λ n u.
        let props = with_counts (length (message_ids t.table)) n (list_any (is_child f) places) c.props in
        let o = context_opens D f c props kind s in (o.0, (record c { props = props }, o.1))))))
        (λ D' s'. mirrored_shows D' f s'.1.0 kind s'.0 s'.1.1)

    pub then_shows : (a : Answer Changed) (f : ℕ) → (f % 32 ≡ 2) ⊎ (f % 32 ≡ 3) → IfOk a Shown → IfOk (a >>= settled T places f) Shown
    then_shows a f kind h = if_then Shown Shown a (settled T places f) h (λ D s. settled_shows D f kind s)
