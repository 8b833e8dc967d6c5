-- How far mending has come.
use Rattle.std.proofs.Common.{◌≡◌, ◌∙◌, ◌+◌, ◌<◌, ◌≤◌, ℕ, suc, zero, ◌==◌, ◌&&◌, ◌||◌, cond, Bool, true, false, List, [], ◌∷◌, ◌++◌, length, get_or, take, drop, drop-cons, map, filter, Ok, Err, ap, arith, refl, subst, sym, inl, inr}
use Rattle.std.specs.Prelude.{nat_le}
use Rattle.std.specs.List.{count_by}
use Rattle.std.proofs.lemmas.Bool.{and_parts, cases_Bool, eq-eqb, leb-true, ne_eqb}
use Rattle.std.proofs.lemmas.List.{take_more}
use Rattle.std.proofs.lemmas.List.Sums.{count_by_more_no, count_by_more_yes}
use Rattle.pst_base.specs.declared.ids.Nid.{Nid}
use Rattle.pst_outside.specs.World.{Image, World}
use Rattle.pst_outside.specs.Calls.{LeavesOnly}
use Rattle.pst_outside.proofs.Moments.{continues, started}
use Rattle.node_port.specs.Nodes.{Nodes}
use Rattle.node_port.specs.Stops.{Room}
use Rattle.store_session.specs.mail_store.Planning.{StandsFor}
use Rattle.mail_tree.specs.Changing.{◌>>=◌}
use Rattle.mail_tree.specs.Places.{place_id}
use Rattle.mail_tree.specs.Whole.{Fine}
use Rattle.mail_tree.specs.declared.places.FolderPlace.{FolderPlace}
use Rattle.search_obj.specs.Scope.{is_among}
use Rattle.mail_searches.specs.Searching.{Searching, is_own}
use Rattle.mail_searches.specs.Step.{after}
use Rattle.store_session.specs.Carrying.{InOrder}
use Rattle.search_mending.specs.Laws.{IsMendable, MendsThese}
use Rattle.search_mending.specs.Mended.{mended, mended_all}
use Rattle.search_mending.specs.Mending.{Mending, is_of_first, is_stale, mended_search}
use Rattle.search_mending.proofs.AllLaws.{ascend, front_in_order, mends_all, one_more, own_filtered}
use Rattle.search_mends.specs.Mends.{IsBeside, LeavesMended, LeavesOne, MendedSoFar, MendsEach, MendsOne, StopsBefore, StopsWithin}
use Rattle.search_mends.specs.Stops.{StopsMending, UnlessFault}
use Rattle.search_mends.specs.declared.all.Mended.{Mended}
use Rattle.search_mends.specs.declared.one.WasMended.{WasMended}
use Rattle.search_mends.specs.declared.stop.MendStop.{MendStop}
use Rattle.search_mends.specs.declared.stop.MendStop.TheVariants.{Memory}
use Rattle.search_mends.proofs.PlanLaws.{mends_so}

-- ---- ids that ascend, one by one

-- each stands among them
at_among : (ids : List ℕ) (n : ℕ) → n < length ids → is_among ids (get_or ids n 0) ≡ true
at_among [] n h = absurd (omega arith)
at_among (i ∷ is) zero h = rw (eq-eqb i i refl) refl
at_among (i ∷ is) (suc n) h = later (i == get_or is n 0) (is_among is (get_or is n 0)) (at_among is n (omega arith))
  where
    later : (b c : Bool) → c ≡ true → (b || c) ≡ true
    later true c e = refl
    later false c e = e

at_least : (low : ℕ) (ids : List ℕ) (n : ℕ) → ascend low ids ≡ true → n < length ids → low ≤ get_or ids n 0
at_least low [] n a h = absurd (omega arith)
at_least low (i ∷ is) zero a h = leb-true low i (and_parts (nat_le low i) (ascend (suc i) is) a).0
at_least low (i ∷ is) (suc n) a h =
    let p = and_parts (nat_le low i) (ascend (suc i) is) a in
    let here : low ≤ i = leb-true low i p.0 in
    let rest : suc i ≤ get_or is n 0 = at_least (suc i) is n p.1 (omega arith) in
    omega (arith, here, rest)

-- and not among those before it
not_before : (low : ℕ) (ids : List ℕ) (n : ℕ) → ascend low ids ≡ true → n < length ids → is_among (take n ids) (get_or ids n 0) ≡ false
not_before low [] n a h = absurd (omega arith)
not_before low (i ∷ is) zero a h = refl
not_before low (i ∷ is) (suc n) a h =
    let p = and_parts (nat_le low i) (ascend (suc i) is) a in
    let above : suc i ≤ get_or is n 0 = at_least (suc i) is n p.1 (omega arith) in
    rw (ne_eqb i (get_or is n 0) (λ e. omega (arith, above, e)), not_before (suc i) is n p.1 (omega arith)) refl

-- the id at a place, of ids as bits
pub nid_at : (ids : List Nid) (n : ℕ) (d : Nid) → n < length ids → get_or (map (λ (i : Nid). i.bits) ids) n 0 ≡ (get_or ids n d).bits
nid_at [] n d h = absurd (omega arith)
nid_at (i ∷ is) zero d h = refl
nid_at (i ∷ is) (suc n) d h = nid_at is n d (omega arith)

pub length_bits : (ids : List Nid) → length (map (λ (i : Nid). i.bits) ids) ≡ length ids
length_bits [] = refl
length_bits (i ∷ is) = ap suc (length_bits is)

-- the own search folders are those that were found among the places
pub own_is : (tidy : Bool) (X : Searching) (places : List FolderPlace) (own : List ℕ) (ids : List Nid) → IsMendable tidy X → X.tree.places ≡ places → X.own ≡ own → map (λ (i : Nid). i.bits) ids ≡ filter (is_own own) (map place_id places)
    → X.own ≡ map (λ (i : Nid). i.bits) ids
own_is tidy X places own ids order p o found = sym (own_filtered tidy X order) ∙ ap (λ x. filter (is_own x) (map place_id X.tree.places)) o ∙ ap (λ ps. filter (is_own own) (map place_id ps)) p ∙ sym found

pub own_at : (X : Searching) (ids : List Nid) (n : ℕ) (d : Nid) → X.own ≡ map (λ (i : Nid). i.bits) ids → n < length ids → get_or X.own n 0 ≡ (get_or ids n d).bits
own_at X ids n d is h = ap (λ x. get_or x n 0) is ∙ nid_at ids n d h

pub own_length : (X : Searching) (ids : List Nid) → X.own ≡ map (λ (i : Nid). i.bits) ids → length X.own ≡ length ids
own_length X ids is = ap length is ∙ length_bits ids

-- ---- one more is counted

counts_more : (p : ℕ → Bool) (ids : List ℕ) (n k : ℕ) (b : Bool) → n < length ids → b ≡ p (get_or ids n 0) → k ≡ count_by p (take n ids) → k + cond b 1 0 ≡ count_by p (take (n + 1) ids)
counts_more p ids n k true h is so = omega (arith, count_by_more_yes p ids n 0 h (sym is), so)
counts_more p ids n k false h is so = omega (arith, count_by_more_no p ids n 0 h (sym is), so)

pub at_most_one : (b : Bool) → cond b 1 0 ≤ 1
at_most_one true = omega arith
at_most_one false = omega arith

-- ---- mending has come to the n-th search

-- The searches before the n-th were mended, and counted are those that were stale and those that were of the first version.
pub record Reached (has : Searching → Type 0) (X : Searching) (n of_stale of_first : ℕ) : Type 0 where
  pub so_far : Searching
  pub mended : mended_all X (take n X.own) ≡ Ok so_far
  pub has_it : has so_far
  pub stale : of_stale ≡ count_by (is_stale X) (take n X.own)
  pub migrated : of_first ≡ count_by (is_of_first X) (take n X.own)

module _ (tidy : Bool) (X : Searching) (order : IsMendable tidy X) where
  -- what mending those before the n-th left
  pub front : (n : ℕ) (Y : Searching) → mended_all X (take n X.own) ≡ Ok Y → MendsThese tidy X (is_among (take n X.own)) Y
  front n Y e = subst (λ a. Fine a (MendsThese tidy X (is_among (take n X.own)))) e (front_in_order tidy X n order)

  module _ (n : ℕ) (h : n < length X.own) (Y : Searching) (e : mended_all X (take n X.own) ≡ Ok Y) where
    abbrev f : ℕ
    f = get_or X.own n 0

    pub own_still : is_own Y.own f ≡ true
    own_still = subst (λ own. is_own own f ≡ true) (sym (front n Y e).own) (at_among X.own n h)

    -- one more
    pub mended_more : (m : Mending) → mended_search Y f ≡ Ok m → mended_all X (take (n + 1) X.own) ≡ Ok (after Y m.coming)
    mended_more m is = ap (mended_all X) (take_more X.own n 0 h) ∙ one_more X Y (take n X.own) f e ∙ ap (λ a. a >>= λ m. Ok (after Y m.coming)) is

    -- whether it was stale, and of the first version, was so from the start
    stale_still : (m : Mending) → mended_search Y f ≡ Ok m → m.stale ≡ is_stale X f
    stale_still m is = (mends_so tidy Y f (front n Y e).order own_still m is).stale ∙ ((front n Y e).others f (at_among X.own n h) (not_before 0 X.own n order.searches.own_ascend h)).stale

    first_still : (m : Mending) → mended_search Y f ≡ Ok m → m.first ≡ is_of_first X f
    first_still m is = (mends_so tidy Y f (front n Y e).order own_still m is).first ∙ ((front n Y e).others f (at_among X.own n h) (not_before 0 X.own n order.searches.own_ascend h)).first

  pub reached_more : (has has' : Searching → Type 0) (n stale migrated : ℕ) (h : n < length X.own) (r : Reached has X n stale migrated) (m : Mending) (was_stale was_first : Bool) → mended_search r.so_far (get_or X.own n 0) ≡ Ok m
      → was_stale ≡ m.stale → was_first ≡ m.first → has' (after r.so_far m.coming) → Reached has' X (n + 1) (stale + cond was_stale 1 0) (migrated + cond was_first 1 0)
  reached_more has has' n stale migrated h r m was_stale was_first is s1 s2 has_it = record {
    so_far = after r.so_far m.coming;
    mended = mended_more n h r.so_far r.mended m is;
    has_it = has_it;
    stale = counts_more (is_stale X) X.own n stale was_stale h (s1 ∙ stale_still n h r.so_far r.mended m is) r.stale;
    migrated = counts_more (is_of_first X) X.own n migrated was_first h (s2 ∙ first_still n h r.so_far r.mended m is) r.migrated;
  }

  -- the n-th was mended
  pub goes_on : (has has' : Searching → Type 0) (room : Room) (n f stale migrated stale' migrated' : ℕ) (h : n < length X.own) → get_or X.own n 0 ≡ f → (r : Reached has X n stale migrated) (one : WasMended) → MendsOne has' room r.so_far f (Ok one)
      → stale' ≡ stale + cond one.stale 1 0 → migrated' ≡ migrated + cond one.first 1 0 → Reached has' X (n + 1) stale' migrated'
  goes_on has has' room n f stale migrated stale' migrated' h at r one made s1 s2 =
      rw (s1, s2) (reached_more has has' n stale migrated h r made.0 one.stale one.first (ap (mended_search r.so_far) at ∙ made.1) made.2 made.3 made.4)

  -- it is an own search folder still
  pub still_own : (has : Searching → Type 0) (n f stale migrated : ℕ) (h : n < length X.own) → get_or X.own n 0 ≡ f → (r : Reached has X n stale migrated) → is_own r.so_far.own f ≡ true
  still_own has n f stale migrated h at r = subst (λ x. is_own r.so_far.own x ≡ true) at (own_still n h r.so_far r.mended)

-- none yet
pub reached_none : (has : Searching → Type 0) (X : Searching) → has X → Reached has X 0 0 0
reached_none has X h = record { so_far = X; mended = refl; has_it = h; stale = refl; migrated = refl }

take_all : (ids : List ℕ) (n : ℕ) → length ids ≤ n → take n ids ≡ ids
take_all [] zero h = refl
take_all [] (suc n) h = refl
take_all (i ∷ is) zero h = absurd (omega arith)
take_all (i ∷ is) (suc n) h = ap (λ x. i ∷ x) (take_all is n (omega arith))

-- all
pub reached_all : (has : Searching → Type 0) (X : Searching) (n : ℕ) (done : Mended) → length X.own ≤ n → Reached has X n done.stale done.migrated → MendsEach has X done
reached_all has X n done le r =
    let all = take_all X.own n le in
    record {
      so_far = r.so_far;
      mended = subst (λ ids. mended_all X ids ≡ Ok r.so_far) all r.mended;
      has_it = r.has_it;
      stale = subst (λ ids. done.stale ≡ count_by (is_stale X) ids) all r.stale;
      migrated = subst (λ ids. done.migrated ≡ count_by (is_of_first X) ids) all r.migrated;
    }

-- then all is in order
pub all_in_order : (tidy : Bool) (X Y : Searching) → IsMendable tidy X → mended X ≡ Ok Y → InOrder tidy Y
all_in_order tidy X Y order e = subst (λ a. Fine a (InOrder tidy)) e (mends_all tidy X order)

cut_at : (ids : List ℕ) (n : ℕ) → ids ≡ take n ids ++ drop n ids
cut_at [] zero = refl
cut_at [] (suc n) = refl
cut_at (i ∷ is) zero = refl
cut_at (i ∷ is) (suc n) = ap (λ x. i ∷ x) (cut_at is n)

-- it stops at the n-th
pub stops_at : (has has' : Searching → Type 0) (room : Room) (X : Searching) (n stale migrated : ℕ) (stop : MendStop) (h : n < length X.own) (r : Reached has X n stale migrated) → StopsMending room r.so_far (get_or X.own n 0) stop
    → UnlessFault (has' r.so_far) stop → StopsWithin has' room X stop
stops_at has has' room X n stale migrated stop h r why kept = record {
  front = take n X.own;
  rest = drop n X.own;
  cuts = cut_at X.own n;
  so_far = r.so_far;
  mended = r.mended;
  why = let here : drop n X.own ≡ get_or X.own n 0 ∷ drop (suc n) X.own = drop-cons X.own n 0 h in subst (λ ids. StopsBefore room r.so_far ids stop) (sym here) why;
  has_it = kept;
}

-- as it is told of it
pub stops_one : (has has' : Searching → Type 0) (room : Room) (X : Searching) (n f stale migrated : ℕ) (stop : MendStop) (h : n < length X.own) → get_or X.own n 0 ≡ f → (r : Reached has X n stale migrated) → MendsOne has' room r.so_far f (Err stop)
    → StopsWithin has' room X stop
stops_one has has' room X n f stale migrated stop h at r made = stops_at has has' room X n stale migrated stop h r (subst (λ x. StopsMending room r.so_far x stop) (sym at) made.0) made.1

-- or before all
pub stops_first : (has : Searching → Type 0) (room : Room) (X : Searching) → has X → StopsWithin has room X Memory
stops_first has room X h = record { front = []; rest = X.own; cuts = refl; so_far = X; mended = refl; why = before X.own; has_it = h }
  where
    before : (ids : List ℕ) → StopsBefore room X ids Memory
    before [] = refl
    before (i ∷ is) = tt

-- ---- what a stop leaves

so_far_none : (P : Searching → Type 0) (X : Searching) → P X → MendedSoFar P X
so_far_none P X is = record { front = []; rest = X.own; cuts = refl; so_far = X; mended = refl; is_so = is }

pub leaves_none : (stands : Image → Nodes → List ℕ → Type 0) (v : World) (X : Searching) → ((c : Image) → v.may_leave c → c ≡ v.here) → StandsFor (stands v.here) X.tree → LeavesMended stands v v X
leaves_none stands v X settled is =
    let P : Image → Type 0 = λ c. (c.said ≡ v.here.said) × MendedSoFar (λ Y. StandsFor (stands c) Y.tree) X in
    let here : P v.here = (refl, so_far_none (λ Y. StandsFor (stands v.here) Y.tree) X is) in
    started v P (λ told. here) (λ c left. subst P (sym (settled c left)) here)

module _ (tidy : Bool) (X : Searching) (order : IsMendable tidy X) (n : ℕ) (h : n < length X.own) (Y : Searching) (e : mended_all X (take n X.own) ≡ Ok Y) where
  so_far_more : (P : Searching → Type 0) → IsBeside P Y (get_or X.own n 0) → MendedSoFar P X
  so_far_more P (inl is) = record { front = take n X.own; rest = drop n X.own; cuts = cut_at X.own n; so_far = Y; mended = e; is_so = is }
  so_far_more P (inr is) = record {
    front = take (n + 1) X.own;
    rest = drop (n + 1) X.own;
    cuts = cut_at X.own (n + 1);
    so_far = after Y is.0.coming;
    mended = mended_more tidy X order n h Y e is.0 is.1;
    is_so = is.2;
  }

  pub leaves_more : (stands : List ℕ → Image → Nodes → List ℕ → Type 0) (found now : List ℕ) (f : ℕ) (old mid new : World) → now ≡ found → get_or X.own n 0 ≡ f → (new.tells → mid.tells) → LeavesMended (stands found) old mid X → LeavesOne (stands now) mid new Y f
      → LeavesMended (stands found) old new X
  leaves_more on found now f old mid new same at tells first last =
      let stands : Image → Nodes → List ℕ → Type 0 = on found in
      let one : LeavesOne (on found) mid new Y f = subst (λ x. LeavesOne (on x) mid new Y f) same last in
      continues first one (λ c told k. (k.0 ∙ (first.here (tells told)).0, so_far_more (λ Z. StandsFor (stands c) Z.tree) (subst (IsBeside (λ Z. StandsFor (stands c) Z.tree) Y) (sym at) k.1)))
