-- The messages that stand within a folder.
use Rattle.std.proofs.Common.{◌≡◌, ◌∙◌, ℕ, suc, ◌%◌, ◌==◌, ◌&&◌, Bool, true, false, List, [], ◌∷◌, ◌++◌, Option, None, Some, IsSome, ap, sym, refl, subst, inl, inr, arith, map, filter, if◌then◌else◌}
use Rattle.std.specs.Prelude.{nat_le}
use Rattle.std.proofs.Math.Bool.{or-true}
use Rattle.std.proofs.lemmas.Bool.{and_parts, cases_Bool, eqb-true, eq-eqb, false≢true}
use Rattle.std.proofs.lemmas.Option.{none-some, same_Some}
use Rattle.mapi_values.specs.Keyed.{keys_ascend}
use Rattle.mapi_values.specs.Messages.{Mes}
use Rattle.mapi_values.specs.Tables.{find_row}
use Rattle.mapi_values.specs.Values.{Val}
use Rattle.mail_objects.specs.Forms.{Tbl}
use Rattle.mail_objects.specs.declared.object.Object.{Object}
use Rattle.mail_objects.specs.declared.object.Object.TheVariants.{Bare, Context, Message, Table}
use Rattle.mail_tree.specs.declared.places.FolderPlace.{FolderPlace}
use Rattle.mail_tree.specs.Changing.{as_message, contents, nothing, now_at}
use Rattle.mail_tree.specs.Places.{find_place, is_plain, is_within, place_id}
use Rattle.mail_tree.specs.Settling.{is_message_row, message_ids}
use Rattle.mail_tree.specs.Tree.{Tree, object_at}
use Rattle.mail_tree.specs.Whole.{Fine}
use Rattle.mail_tree.proofs.AfterTree.{now_nothing}
use Rattle.mail_tree.proofs.FineLaws.{after_message, after_table, fine_either, fine_then, fine_weaker}
use Rattle.mail_tree.proofs.KeyedFinds.{below}
use Rattle.mail_tree.proofs.Settles.{EachMessage, messages_of}
use Rattle.mail_laws.proofs.MessageSteps.{Before}
use Rattle.mail_laws.specs.Laws.{message_with}
use Rattle.search_obj.specs.Scope.{is_among}
use Rattle.mail_searches.specs.Relisting.{Touch}
use Rattle.mail_searches.specs.Touching.{carried, messages_below}
use Rattle.mail_searches.specs.Searching.{Each}
use Rattle.search_lists.specs.Laws.{is_touched}

left : (xs ys : List Touch) (k : ℕ) → is_touched xs k ≡ true → is_touched (xs ++ ys) k ≡ true
left [] ys k e = absurd (false≢true e)
left (x ∷ xs) ys k e = elim (cases_Bool (x.nid == k)) [ inl t ↦ rw t refl | inr f ↦ rw f (left xs ys k (sym (rw f refl) ∙ e)) ]

right : (xs ys : List Touch) (k : ℕ) → is_touched ys k ≡ true → is_touched (xs ++ ys) k ≡ true
right [] ys k e = e
right (x ∷ xs) ys k e = rw (right xs ys k e) (or-true (x.nid == k))

each-both : {X : Type 0} (P : X → Type 0) (xs ys : List X) → Each P xs → Each P ys → Each P (xs ++ ys)
each-both P [] ys a b = b
each-both P (x ∷ xs) ys a b = (a.0, each-both P xs ys a.1 b)

-- the row of a message gives its id
in-ids : (rows : List (ℕ × List Val)) (k : ℕ) → k % 32 ≡ 4 → IsSome (find_row k rows) → is_among (map (λ r. r.0) (filter is_message_row rows)) k ≡ true
in-ids [] k four some = absurd (false≢true some)
in-ids (r ∷ rows) k four some = elim (cases_Bool (r.0 == k)) [
  | inl t ↦ let e : r.0 ≡ k = eqb-true r.0 k t in rw (eq-eqb (r.0 % 32) 4 (ap (λ x. x % 32) e ∙ four), t) refl
  | inr f ↦ pick (is_message_row r) (in-ids rows k four (subst IsSome (rw f refl) some))
]
  where
    pick : (b : Bool) → is_among (map (λ r. r.0) (filter is_message_row rows)) k ≡ true → is_among (map (λ r. r.0) (if b then r ∷ filter is_message_row rows else filter is_message_row rows)) k ≡ true
    pick true h = rw h (or-true (r.0 == k))
    pick false h = h

-- a touched message stays as it is
abbrev pub Stays : Tree → Touch → Type 0
Stays T t = (t.old ≡ message_with T t.nid) × (t.new ≡ message_with T t.nid)

module _ (T : Tree) (w : Before T) (f : ℕ) where
  -- each of these messages is touched, and stays as it is
  abbrev Carries : List ℕ → List Touch → Type 0
  Carries ms ts = Each (Stays T) ts × ((k : ℕ) → is_among ms k ≡ true → is_touched ts k ≡ true)

  carries : (ms : List ℕ) → EachMessage (now_at T nothing) ms → Fine (carried T ms) (Carries ms)
  carries [] each = (tt, λ k e. e)
  carries (m ∷ ms) each =
      let M = each.0.0 in
      let is : Some M ≡ message_with T m = sym (ap as_message (sym (ap (λ g. g m) (now_nothing T)) ∙ each.0.1)) in
      after_message (Carries (m ∷ ms)) T nothing m M _ each.0.1 (fine_then (Carries ms) (Carries (m ∷ ms)) (carried T ms) _ (carries ms each.1) (λ ts c. (
        ((is, is), c.0),
        λ k e. elim (cases_Bool (m == k)) [ inl t ↦ rw t refl | inr n ↦ rw n (c.1 k (sym (rw n refl) ∙ e)) ],
      )))

  -- each message in a table of one of these folders within f is touched, and stays as it is
  record Covers (ps : List FolderPlace) (ts : List Touch) : Type 0 where
    stay : Each (Stays T) ts
    all : (g : ℕ) (p : FolderPlace) (t : Tbl) (k : ℕ) → find_place g ps ≡ Some p → is_plain p ≡ true → is_within T.places f g ≡ true → now_at T nothing (contents g) ≡ Some (Table t)
        → IsSome (find_row k t.table.rows) → k % 32 ≡ 4 → is_touched ts k ≡ true

  one-table : (t u : Tbl) → ◌≡◌ {A = Option Object} (Some (Table t)) (Some (Table u)) → t ≡ u
  one-table t u e = cc

  covers : (low : ℕ) (ps : List FolderPlace) → keys_ascend place_id low ps ≡ true → ((g : ℕ) (p : FolderPlace) → find_place g ps ≡ Some p → find_place g T.places ≡ Some p) → Fine (messages_below T f ps) (Covers ps)
  covers low [] a within-places = record { stay = tt; all = λ g p t k e plain within there some four. absurd (none-some p e) }
  covers low (q ∷ ps) a within-places =
      let parts = and_parts (nat_le low (place_id q)) (keys_ascend place_id (suc (place_id q)) ps) a in
      let later : (g : ℕ) (p : FolderPlace) → find_place g ps ≡ Some p → find_place g (q ∷ ps) ≡ Some p = λ g p e.
      elim (cases_Bool (place_id q == g)) [
        | inl t ↦ absurd (none-some p (sym (ap (λ x. find_place x ps) (sym (eqb-true (place_id q) g t)) ∙ below place_id (suc (place_id q)) (place_id q) ps parts.1 (omega arith)) ∙ e))
        | inr n ↦ rw n e
      ] in
      let rest = covers (suc (place_id q)) ps parts.1 (λ g p e. within-places g p (later g p e)) in
      let here : find_place (place_id q) T.places ≡ Some q = within-places (place_id q) q (rw (eq-eqb (place_id q) (place_id q) refl) refl) in
      fine_either (Covers (q ∷ ps)) (is_plain q && is_within T.places f (place_id q)) _ _
      (λ b.
      let plain = (and_parts (is_plain q) _ b).0 in
      let table = messages_of w (place_id q) q here plain in
      let u = table.0 in
      after_table (Covers (q ∷ ps)) T nothing (contents (place_id q)) u _ table.1 (fine_then (Carries (message_ids u.table)) (Covers (q ∷ ps)) (carried T (message_ids u.table)) _ (carries (message_ids u.table) table.2) (λ ts c.
      fine_then (Covers ps) (Covers (q ∷ ps)) (messages_below T f ps) _ rest (λ more r. record {
        stay = each-both (Stays T) ts more c.0 r.stay;
        all = λ g p t k e plain within there some four. elim (cases_Bool (place_id q == g)) [
          | inl s ↦
              let same : place_id q ≡ g = eqb-true (place_id q) g s in
              let tables : t ≡ u = one-table t u (sym there ∙ (ap (λ x. now_at T nothing (contents x)) (sym same) ∙ table.1)) in
              left ts more k (c.1 k (in-ids u.table.rows k four (subst (λ (x : Tbl). IsSome (find_row k x.table.rows)) tables some)))
          | inr s ↦ right ts more k (r.all g p t k (sym (rw s refl) ∙ e) plain within there some four)
        ];
      }))))
      (λ b. fine_weaker (Covers ps) (Covers (q ∷ ps)) (messages_below T f ps) rest (λ ts r. record {
        stay = r.stay;
        all = λ g p t k e plain within there some four. elim (cases_Bool (place_id q == g)) [
          | inl s ↦
              let same : place_id q ≡ g = eqb-true (place_id q) g s in
              let q-plain : is_plain q ≡ true = ap is_plain (same_Some q p (sym (rw s refl) ∙ e)) ∙ plain in
              absurd (false≢true (sym b ∙ (ap (λ c. c && is_within T.places f (place_id q)) q-plain ∙ (ap (is_within T.places f) same ∙ within))))
          | inr s ↦ r.all g p t k (sym (rw s refl) ∙ e) plain within there some four
        ];
      }))

  -- the messages below a folder stay as they are, and each other one stands outside
  pub below-folder : Fine (messages_below T f T.places) (λ ts. Each (Stays T) ts × ((k : ℕ) (M : Mes) → message_with T k ≡ Some M → is_touched ts k ≡ false → is_within T.places f M.folder ≡ false))
  below-folder = fine_weaker (Covers T.places) _ (messages_below T f T.places) (covers 0 T.places w.ascend (λ g p e. e)) (λ ts c. (c.stay, λ k M is none. outside ts c k M is none (object_at T k) refl))
    where
      message_four : (k : ℕ) (M : Mes) → now_at T nothing k ≡ Some (Message M) → k % 32 ≡ 4
      message_four k M at = eqb-true (k % 32) 4 (and_parts (k % 32 == 4) (M.nid == k) (w.typed k (Message M) at)).0

      outside : (ts : List Touch) → Covers T.places ts → (k : ℕ) (M : Mes) → message_with T k ≡ Some M → is_touched ts k ≡ false → (o : Option Object) → object_at T k ≡ o → is_within T.places f M.folder ≡ false
      outside ts c k M is none None at = absurd (none-some M (ap as_message (sym at) ∙ is))
      outside ts c k M is none (Some (Context x)) at = absurd (none-some M (ap as_message (sym at) ∙ is))
      outside ts c k M is none (Some (Table x)) at = absurd (none-some M (ap as_message (sym at) ∙ is))
      outside ts c k M is none (Some (Bare x)) at = absurd (none-some M (ap as_message (sym at) ∙ is))
      outside ts c k M is none (Some (Message N)) at =
          let same : N ≡ M = same_Some N M (ap as_message (sym at) ∙ is) in
          let at' : now_at T nothing k ≡ Some (Message M) = ap (λ g. g k) (now_nothing T) ∙ at ∙ ap (λ (x : Mes). Some (Message x)) same in
          elim (cases_Bool (is_within T.places f M.folder)) [
            | inr out ↦ out
            | inl within ↦
                let h = w.held k M at' in let row = h.3 in
                absurd (false≢true (sym none ∙ c.all M.folder h.0 row.0 k h.1 h.2 within row.1 row.2 (message_four k M at')))
          ]
