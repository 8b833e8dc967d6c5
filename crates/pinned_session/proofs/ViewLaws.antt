-- What a line on views comes to.
use Rattle.std.proofs.Common.{◌≡◌, ◌∙◌, ◌⊎◌, inl, inr, ℕ, ◌==◌, Bool, true, false, not, List, [], ◌∷◌, filter, Option, None, Some, Result, Ok, Err, if◌then◌else◌, ap, refl, subst, sym}
use Rattle.std.proofs.lemmas.Bool.{cases_Bool, eqb-true}
use Rattle.std.specs.Prelude.{find}
use Rattle.pst_outside.specs.World.{Image, World}
use Rattle.pst_base.specs.declared.ids.Nid.{Nid}
use Rattle.mapi_values.specs.declared.value.Tag.{Tag}
use Rattle.node_port.specs.Pins.{Pins}
use Rattle.node_port.specs.Stops.{Room}
use Rattle.command_text.specs.Replies.{text}
use Rattle.command_text.specs.declared.reply.CommandRefusal.{CommandRefusal}
use Rattle.command_text.specs.declared.reply.LastLine.TheVariants.{NoMemory}
use Rattle.line_server.specs.Spoken.{no_memory_text, spoken_text}
use Rattle.line_server.specs.declared.spoken.Spoken.{Spoken}
use Rattle.mail_objects.specs.Forms.{Tbl}
use Rattle.mail_tree.specs.Changing.{Answer}
use Rattle.mail_tree.specs.Folders.{replied}
use Rattle.mail_tree.specs.Whole.{Fine}
use Rattle.mail_searches.specs.Searching.{Searching}
use Rattle.mail_reading.specs.Viewed.{listing_of, listing_view}
use Rattle.mail_reading.specs.declared.viewing.Listing.{Listing}
use Rattle.sorted_views.specs.Rows.{sorts_by}
use Rattle.sorted_views.specs.declared.rows.Direction.{Direction}
use Rattle.session_lines.specs.Texts.{view_text}
use Rattle.session_lines.specs.declared.line.SessionLine.{SessionLine}
use Rattle.session_lines.specs.declared.line.SessionLine.TheVariants.{ShowView}
use Rattle.session_lines.specs.declared.line.ViewReply.TheVariants.{Closed, NoView}
use Rattle.store_session.specs.Carrying.{CarriesOut, ComesTo, Leaves}
use Rattle.store_session.specs.Disks.{Effects, SameMedium, medium}
use Rattle.store_session.specs.Run.{refused}
use Rattle.store_session.specs.mail_draft.Answers.{Says}
use Rattle.store_session.specs.mail_draft.declared.stop.Stop.{Stop}
use Rattle.store_session.specs.mail_draft.declared.stop.Stop.TheVariants as stops
use Rattle.store_session.specs.declared.carrying.StoreStop.{StoreStop}
use Rattle.store_session.specs.declared.carrying.StoreStop.TheVariants.{Disk, Changed}
use Rattle.store_session.proofs.Carry.{memory_text}
use Rattle.pinned_session.specs.Run.{SaysTo}
use Rattle.pinned_session.specs.Showing.{AnswersView, LacksMemory, OpensColumn, OpensListing, ShowsListing, ShowsRows, ShowsView, closed_text}
use Rattle.pinned_session.specs.Sitting.{Sitting}
use Rattle.pinned_session.specs.Viewing.{Viewing, view_at, viewing_of, without_view}
use Rattle.pinned_session.specs.declared.views.OpenView.{OpenView as View}
use Rattle.pinned_session.specs.declared.views.OpenViews.{OpenViews}

-- ---- a view is closed

-- what is found passes the test
find_true : {A : Type 0} (p : A → Bool) (xs : List A) (x : A) → find p xs ≡ Some x → p x ≡ true
find_true p [] x is = cc
find_true {A} p (y ∷ ys) x is = by (λ rest. find_true p ys x rest) (p y) refl is
  where
    some_is : {a b : A} → ◌≡◌ {A = Option A} (Some a) (Some b) → a ≡ b
    some_is e = cc

    by : (find p ys ≡ Some x → p x ≡ true) → (b : Bool) → p y ≡ b → ◌≡◌ {A = Option A} (if b then Some y else find p ys) (Some x) → p x ≡ true
    by below true e same = subst (λ z. p z ≡ true) (some_is same) e
    by below false e rest = below rest

-- where none is found, none goes
none_goes : {A : Type 0} (p : A → Bool) (xs : List A) → find p xs ≡ None → filter (λ x. not (p x)) xs ≡ xs
none_goes p [] is = refl
none_goes p (y ∷ ys) is = elim (cases_Bool (p y)) [
  | inl t ↦ absurd (some_none (rw t at is))
  | inr f ↦ rw f (ap (λ l. y ∷ l) (none_goes p ys (rw f at is)))
]
  where
    some_none : {B : Type 0} {b : B} → ◌≡◌ {A = Option B} (Some b) None → ⊥
    some_none e = cc

stays_open : (view : Option ℕ) (V : Viewing) → view_at view V ≡ None → V ≡ without_view view V
stays_open None V is = refl
stays_open (Some v) V is = ap (λ l. record V { opened = l }) (sym (none_goes (λ (view : View). view.number == v) V.opened is))

-- what is said where a view is closed, or is none
abbrev pub Closes : Option ℕ → OpenViews → OpenViews → List ℕ → Type 0
Closes view old new said = ((said ≡ closed_text (view_at view (viewing_of old))) × (viewing_of new ≡ without_view view (viewing_of old))) ⊎ LacksMemory old new said

pub closes_none : (view : Option ℕ) (old : OpenViews) (said : List ℕ) → view_at view (viewing_of old) ≡ None → (said ≡ view_text NoView) ⊎ (said ≡ no_memory_text) → Closes view old old said
closes_none view old said none (inl is) = inl (is ∙ ap closed_text (sym none), stays_open view (viewing_of old) none)
closes_none view old said none (inr is) = inr (is, refl)

pub closes_found : (view : Option ℕ) (old : OpenViews) (opened : List View) (said : List ℕ) (found : View) → view_at view (viewing_of old) ≡ Some found → said ≡ view_text Closed → opened ≡ filter (λ (v : View). not (v.number == found.number)) old.opened.items
    → (said ≡ closed_text (view_at view (viewing_of old))) × (record { given = old.given; opened = opened } ≡ without_view view (viewing_of old))
closes_found None old opened said found at is goes = absurd (none_some at)
  where
    none_some : ◌≡◌ {A = Option View} None (Some found) → ⊥
    none_some e = cc
closes_found (Some v) old opened said found at is goes =
    let same : found.number ≡ v = eqb-true found.number v (find_true (λ (view : View). view.number == v) old.opened.items found at) in
    (is ∙ ap closed_text (sym at), ap (λ l. record { given = old.given; opened = l }) (goes ∙ ap (λ n. filter (λ (view : View). not (view.number == n)) old.opened.items) same))

-- ---- what a folder lists was read, or not

-- a refusal is that of the listing
pub refused_listing : (listed : Answer (Tbl × List ℕ)) (refusal : CommandRefusal) → Fine listed (λ l. Unit {0}) → Says {B = Listing} listing_view listed (Err (stops.Refused refusal)) → listed ≡ Err (Some refusal)
refused_listing (Ok l) refusal fine is = absurd is
refused_listing (Err (Some r)) refusal fine is = ap (λ g. Err (Some g)) (sym is)
refused_listing (Err None) refusal fine is = absurd fine

-- nothing was found changed
never_changed : (listed : Answer (Tbl × List ℕ)) (ib stored computed : ℕ) → Fine listed (λ l. Unit {0}) → Says {B = Listing} listing_view listed (Err (stops.Changed ib stored computed)) → ⊥
never_changed (Ok l) ib stored computed fine is = is
never_changed (Err (Some r)) ib stored computed fine is = is
never_changed (Err None) ib stored computed fine is = fine

-- it was read: the rows of the view are those of the listing
pub shown_listing : (grouped : Bool) (view : View) (listed : Answer (Tbl × List ℕ)) (listing : Listing) (said : List ℕ) → Says listing_view listed (Ok listing) → Fine listed (λ l. Unit {0}) → ShowsRows grouped view listing.table.table listing.ids.items said → ShowsListing grouped view listed said
shown_listing grouped view (Ok l) listing said same fine is = subst (λ (l : Tbl × List ℕ). ShowsRows grouped view l.0.table l.1 said) same is
shown_listing grouped view (Err (Some refusal)) listing said none fine is = absurd none
shown_listing grouped view (Err None) listing said none fine is = absurd fine

-- so is the column that is looked for
pub opened_listing : (folder : Nid) (tag : Tag) (direction : Direction) (V after : Viewing) (listed : Answer (Tbl × List ℕ)) (listing : Listing) (said : List ℕ) → Says listing_view listed (Ok listing) → Fine listed (λ l. Unit {0})
    → OpensColumn (sorts_by listing.table.table tag) folder tag direction V said after → OpensListing listed folder tag direction V said after
opened_listing folder tag direction V after (Ok l) listing said same fine is = subst (λ (l : Tbl × List ℕ). OpensColumn (sorts_by l.0.table tag) folder tag direction V said after) same is
opened_listing folder tag direction V after (Err (Some refusal)) listing said none fine is = absurd none
opened_listing folder tag direction V after (Err None) listing said none fine is = absurd fine

-- ---- rows and groups, by the views

module _ (view : Option ℕ) (grouped : Bool) (X : Searching) where
  -- the view that is named is this
  pub shows_at : (V : Viewing) (found : View) (said : List ℕ) → view_at view V ≡ Some found → ShowsListing grouped found (listing_of X found.folder.bits) said → ShowsView grouped (view_at view V) X said × (V ≡ V)
  shows_at V found said at is = (subst (λ v. ShowsView grouped v X said) (sym at) is, refl)

  -- there is no such view
  pub shows_none : (views : OpenViews) (said : List ℕ) → view_at view (viewing_of views) ≡ None → (said ≡ view_text NoView) ⊎ (said ≡ no_memory_text)
      → AnswersView X (viewing_of views) (ShowView view grouped) said (viewing_of views) ⊎ LacksMemory views views said
  shows_none views said none (inl is) = inl (subst (λ v. ShowsView grouped v X said) (sym none) is, refl)
  shows_none views said none (inr is) = inr (is, refl)

  -- its folder was listed
  pub shows_rows : (views : OpenViews) (found : View) (listing : Listing) (said : List ℕ) → view_at view (viewing_of views) ≡ Some found → Says listing_view (listing_of X found.folder.bits) (Ok listing) → Fine (listing_of X found.folder.bits) (λ l. Unit {0})
      → ShowsRows grouped found listing.table.table listing.ids.items said ⊎ (said ≡ no_memory_text) → AnswersView X (viewing_of views) (ShowView view grouped) said (viewing_of views) ⊎ LacksMemory views views said
  shows_rows views found listing said at says fine (inl is) = inl (shows_at (viewing_of views) found said at (shown_listing grouped found (listing_of X found.folder.bits) listing said says fine is))
  shows_rows views found listing said at says fine (inr is) = inr (is, refl)

-- ---- lines on views in a session over a file

module _ (effects : Pins → Effects) (room : Room) (S : Sitting) (old new : World) (same : new.tells → SameMedium (medium old) (medium new)) (has : Sitting → Type 0) (stands : Image → Sitting → Type 0) (asked : SessionLine) where
  -- a line that leaves the state
  module _ (h : has S) (leaves : Leaves stands old new S S) where
    -- there was no memory
    pub lacking : (spoken : Spoken) → spoken_text spoken ≡ no_memory_text → CarriesOut has stands (SaysTo effects room S (medium old) asked) old new S (Ok spoken)
    lacking spoken is = (S, inr (is ∙ memory_text, (refl, same)), h, leaves)

    -- what the folder lists couldn't be read
    pub listing_stops : (listed : Answer (Tbl × List ℕ)) → Fine listed (λ l. Unit {0}) → (stop : Stop) (r : Result Spoken StoreStop) → ComesTo stop r → Says {B = Listing} listing_view listed (Err stop)
        → ((refusal : CommandRefusal) (spoken : Spoken) → listed ≡ Err (Some refusal) → spoken_text spoken ≡ refused refusal → CarriesOut has stands (SaysTo effects room S (medium old) asked) old new S (Ok spoken))
        → CarriesOut has stands (SaysTo effects room S (medium old) asked) old new S r
    listing_stops listed fine stop (Ok spoken) (inl is) says by = by is.0 spoken (refused_listing listed is.0 fine (subst (λ s. Says {B = Listing} listing_view listed (Err s)) is.1 says)) is.2
    listing_stops listed fine stop (Ok spoken) (inr is) says by = lacking spoken is
    listing_stops listed fine stop (Err Disk) is says by = (S, text (replied NoMemory), inr (refl, (refl, λ none. absurd none)), leaves)
    listing_stops listed fine stop (Err (Changed ib stored computed)) is says by = absurd (never_changed listed ib stored computed fine (subst (λ s. Says {B = Listing} listing_view listed (Err s)) is says))

  -- a line on views was answered, whose views are these after it
  module _ (olds news : OpenViews) (was : S.views ≡ viewing_of olds) (on : (V : Viewing) → V ≡ viewing_of news → has (record S { views = V })) (leaves : (Z : Sitting) → Leaves stands old new S Z)
      (carries : (said : List ℕ) (V : Viewing) → AnswersView S.now S.views asked said V → SaysTo effects room S (medium old) asked new.tells said (record S { views = V }) (medium new)) where
    pub answers_view : (spoken : Spoken) → AnswersView S.now (viewing_of olds) asked (spoken_text spoken) (viewing_of news) ⊎ LacksMemory olds news (spoken_text spoken) → CarriesOut has stands (SaysTo effects room S (medium old) asked) old new S (Ok spoken)
    answers_view spoken (inl is) =
        let V = viewing_of news in
        (record S { views = V }, carries (spoken_text spoken) V (subst (λ (U : Viewing). AnswersView S.now U asked (spoken_text spoken) V) (sym was) is), on V refl, leaves (record S { views = V }))
    answers_view spoken (inr is) = lacking (on S.views (was ∙ sym is.1)) (leaves S) spoken is.0
