-- What is put stands in the tree already, or is new: then it can be compared with the tree.
use Rattle.std.proofs.Common.{◌≡◌, ℕ, ◌==◌, ◌&&◌, ◌⊎◌, inl, inr, not, Bool, true, false, List, [], ◌∷◌, Option, None, Some, IsSome, Ok, Err, IfOk, length, refl, if◌then◌else◌, arith, ap, sym, subst, ◌∙◌}
use Rattle.std.proofs.Common.{Ordering, Less, Equal, Greater}
use Rattle.std.specs.FinMap as map
use Rattle.std.specs.FinMap.Entries.{by_order, put}
use Rattle.std.specs.Cmp.{nat_cmp_total, ranked}
use Rattle.std.specs.Ordering.{nat_cmp, is_eq, eq_by_cmp}
use Rattle.std.specs.List.{list_all}
use Rattle.std.proofs.lemmas.Bool.{cases_Bool, false≢true}
use Rattle.mapi_values.specs.Values.{Val}
use Rattle.pst_base.specs.declared.ids.Nid.{Nid}
use Rattle.command_text.specs.declared.reply.CommandRefusal.TheVariants.{Limit}
use Rattle.command_text.specs.declared.reply.Limit.TheVariants.{Properties, Rows}
use Rattle.mail_objects.specs.Forms.{Ctx}
use Rattle.mail_objects.specs.declared.object.Object.{Object}
use Rattle.mail_objects.specs.declared.object.Object.TheVariants.{Context, Table, Message, Bare}
use Rattle.mail_tree.specs.declared.places.FolderPlace.{FolderPlace}
use Rattle.mail_tree.specs.Places.{ROOT}
use Rattle.mail_tree.specs.Tree.{Tree, object_at}
use Rattle.mail_tree.specs.Values.{crowds, is_crowded}
use Rattle.mail_tree.specs.Changing.{Answer, Changed, ◌>>=◌, add_shown, as_context, as_message, contents, context_at, crowds_message, drop_shown, entry_fits, hierarchy, is_crowded_message, is_crowding, is_new, known, newest, nothing, now_at, overfills, put_shown, refused_if, shown_row, table_at, unless_crowding, unless_past, with_object, within_limits}
use Rattle.mail_tree.specs.Settling.{above_as_is, context_as_is, counted, message_ids, mirrored, settled, table_as_is, touched, unread_among}
use Rattle.mail_tree.specs.Whole.{Fine}
use Rattle.mail_tree.proofs.FineLaws.{fine_test, fine_then}

-- properties that are put stand where properties stand in the tree, and a message where one stands, but for new ids
abbrev pub Stood : Tree → (ℕ → Type 0) → ℕ × Option Object → Type 0
Stood T new (q, Some (Context c)) = new q ⊎ IsSome (as_context (object_at T q))
Stood T new (q, Some (Message m)) = new q ⊎ IsSome (as_message (object_at T q))
Stood T new (q, other) = Unit {0}

abbrev pub EachStood : Tree → (ℕ → Type 0) → List (ℕ × Option Object) → Type 0
EachStood T new [] = Unit {0}
EachStood T new (e ∷ es) = Stood T new e × EachStood T new es

-- so it is of all changes
abbrev pub AreStood : Tree → (ℕ → Type 0) → Changed → Type 0
AreStood T new D = EachStood T new (map.entries D.objects)

equal_is : (r : Ordering) → is_eq r ≡ true → r ≡ Equal
equal_is Less h = cc
equal_is Equal h = refl
equal_is Greater h = cc

-- ids that compare equal are one id
same_id : (q k : ℕ) → eq_by_cmp nat_cmp q k ≡ true → q ≡ k
same_id q k h = ranked q k Equal (sym (equal_is (nat_cmp q k) h))

same_some : {A : Type 0} (x y : A) → Some x ≡ Some y → x ≡ y
same_some x y e = cc

no_entries : {A : Type 0} (xs : List A) → length xs ≡ 0 → xs ≡ []
no_entries [] e = refl
no_entries (x ∷ xs) e = absurd (omega (arith, e))

-- an object that is properties
pub is_context : (o : Option Object) (c : Ctx) → known (as_context o) ≡ Ok c → o ≡ Some (Context c)
is_context None c e = cc
is_context (Some (Context d)) c e = cc
is_context (Some (Table t)) c e = cc
is_context (Some (Message m)) c e = cc
is_context (Some (Bare parent)) c e = cc

-- a step, and what follows it
pub goes_on : {A B : Type 0} (Q : B → Type 0) (a : Answer A) (f : A → Answer B) → ((x : A) → a ≡ Ok x → IfOk (f x) Q) → IfOk (a >>= f) Q
goes_on Q (Ok x) f next = next x refl
goes_on Q (Err e) f next = tt

-- the same for changes
pub stood_then : {P : Changed → Type 0} (a : Answer Changed) (f : Changed → Answer Changed) → IfOk a P → ((D : Changed) → P D → IfOk (f D) P) → IfOk (a >>= f) P
stood_then (Ok D) f first next = next D first
stood_then (Err e) f first next = tt

module _ (T : Tree) (new : ℕ → Type 0) where
  placed : (k : ℕ) (v : Option Object) (e : ℕ × Option Object) (es : List (ℕ × Option Object)) (r : Ordering) → r ≡ nat_cmp k e.0 → Stood T new (k, v) → EachStood T new (e ∷ es) → EachStood T new (put nat_cmp k v es)
      → EachStood T new (by_order r ((k, v) ∷ e ∷ es) ((e.0, v) ∷ es) (e ∷ put nat_cmp k v es))
  placed k v e es Less is one all rest = (one, all)
  placed k v e es Equal is one all rest = (subst (λ x. Stood T new (x, v)) (ranked k e.0 Equal is) one, all.1)
  placed k v e es Greater is one all rest = (all.0, rest)

  each_put : (k : ℕ) (v : Option Object) (es : List (ℕ × Option Object)) → Stood T new (k, v) → EachStood T new es → EachStood T new (put nat_cmp k v es)
  each_put k v [] one all = (one, tt)
  each_put k v (e ∷ es) one all = placed k v e es (nat_cmp k e.0) refl one all (each_put k v es one all.1)

  -- one more change
  pub stood_put : (q : ℕ) (o : Option Object) (D : Changed) → Stood T new (q, o) → AreStood T new D → AreStood T new (with_object q o D)
  stood_put q o D one all = subst (EachStood T new) (sym (map.entries-insert nat_cmp_total D.objects q o)) (each_put q o (map.entries D.objects) one all)

  pub none_stood : AreStood T new nothing
  none_stood = subst (EachStood T new) (sym (no_entries (map.entries (map.empty {K = ℕ} {X = Option Object} {R = nat_cmp})) (sym (map.len-entries (map.empty {K = ℕ} {X = Option Object} {R = nat_cmp})) ∙ map.len-empty nat_cmp (Option Object)))) tt

  found_context : (f : ℕ) (c : Ctx) (es : List (ℕ × Option Object)) → EachStood T new es → map.find nat_cmp f es ≡ Some (Some (Context c)) → new f ⊎ IsSome (as_context (object_at T f))
  found_context f c [] all is = cc
  found_context f c (e ∷ es) all is = elim (cases_Bool (eq_by_cmp nat_cmp f e.0)) [
    | inl t ↦
        let v : e.1 ≡ Some (Context c) = same_some e.1 (Some (Context c)) (rw t at is) in
        subst (λ x. new x ⊎ IsSome (as_context (object_at T x))) (sym (same_id f e.0 t)) (subst (λ x. Stood T new (e.0, x)) v all.0)
    | inr t ↦ found_context f c es all.1 (rw t at is)
  ]

  newest_context : (f : ℕ) (c : Ctx) (es : List (ℕ × Option Object)) (r : Option (Option Object)) → EachStood T new es → map.find nat_cmp f es ≡ r → newest r (object_at T f) ≡ Some (Context c) → new f ⊎ IsSome (as_context (object_at T f))
  newest_context f c es None all found is = inr (rw is refl)
  newest_context f c es (Some object) all found is = found_context f c es all (found ∙ ap Some is)

  -- properties that stand there after the changes stood there, or are new
  pub context_stood : (f : ℕ) (c : Ctx) (D : Changed) → AreStood T new D → now_at T D f ≡ Some (Context c) → new f ⊎ IsSome (as_context (object_at T f))
  context_stood f c D all is = newest_context f c (map.entries D.objects) (map.get D.objects f) all (sym (map.get-entries D.objects f)) is

  -- they get other values
  pub values_stood : (f : ℕ) (c new_c : Ctx) (D : Changed) → AreStood T new D → now_at T D f ≡ Some (Context c) → AreStood T new (with_object f (Some (Context new_c)) D)
  values_stood f c new_c D all is = stood_put f (Some (Context new_c)) D (context_stood f c D all is) all

  counted_stood : (places : List FolderPlace) (f : ℕ) (D : Changed) → AreStood T new D → IfOk (counted T places f D) (AreStood T new)
  unfolding counted
  counted_stood places f D all =
      goes_on _ (context_at T D f) _ (λ c is. goes_on _ (table_at T D (contents f)) _ (λ t u. goes_on _ (unread_among T D (message_ids t.table)) _ (λ n v.
      values_stood f c _ D all (is_context (now_at T D f) c is))))

  same_stood : (q : ℕ) (D : Changed) → AreStood T new D → IfOk (table_as_is T q D) (AreStood T new)
  unfolding table_as_is
  same_stood q D all = goes_on _ (table_at T D q) _ (λ t u. stood_put q (Some (Table t)) D tt all)

  context_same : (f : ℕ) (D : Changed) → AreStood T new D → IfOk (context_as_is T f D) (AreStood T new)
  unfolding context_as_is
  context_same f D all = goes_on _ (context_at T D f) _ (λ c is. values_stood f c c D all (is_context (now_at T D f) c is))

  pub shown_stood : (q id : ℕ) (props : List Val) (D : Changed) → AreStood T new D → IfOk (put_shown T q id props D) (AreStood T new)
  unfolding put_shown
  shown_stood q id props D all = goes_on _ (table_at T D q) _ (λ t u. stood_put q _ D tt all)

  pub added_stood : (q id : ℕ) (props : List Val) (D : Changed) → AreStood T new D → IfOk (add_shown T q id props D) (AreStood T new)
  unfolding add_shown
  added_stood q id props D all = goes_on _ (table_at T D q) _ (λ t u. goes_on _ (refused_if (overfills t.table.rows (shown_row id props t.table)) (Limit Rows)) _ (λ v w. stood_put q _ D tt all))

  pub dropped_stood : (q id : ℕ) (D : Changed) → AreStood T new D → IfOk (drop_shown T q id D) (AreStood T new)
  unfolding drop_shown
  dropped_stood q id D all = goes_on _ (table_at T D q) _ (λ t u. stood_put q _ D tt all)

  pub mirrored_stood : (f : ℕ) (D : Changed) → AreStood T new D → IfOk (mirrored T f D) (AreStood T new)
  unfolding mirrored
  mirrored_stood f D all = elim (cases_Bool (f == ROOT)) [
    | inl t ↦ rw t (same_stood (hierarchy ROOT) D all)
    | inr t ↦ rw t (goes_on _ (context_at T D f) _ (λ c is. shown_stood (hierarchy c.parent) f c.props D all))
  ]

  above_stood : (f : ℕ) (D : Changed) → AreStood T new D → IfOk (above_as_is T f D) (AreStood T new)
  unfolding above_as_is
  above_stood f D all = elim (cases_Bool (f == ROOT)) [
    | inl t ↦ rw t (same_stood (hierarchy ROOT) D all)
    | inr t ↦ rw t (goes_on _ (context_at T D f) _ (λ c is. same_stood (hierarchy c.parent) D all))
  ]

  -- a folder from which something is read
  pub touched_stood : (f : ℕ) (D : Changed) → AreStood T new D → IfOk (touched T f D) (AreStood T new)
  unfolding touched
  touched_stood f D all = stood_then (context_as_is T f D >>= table_as_is T (contents f)) (above_as_is T f)
      (stood_then (context_as_is T f D) (table_as_is T (contents f)) (context_same f D all) (λ D' k. same_stood (contents f) D' k)) (λ D' k. above_stood f D' k)

  -- a folder that is counted anew
  pub settled_stood : (places : List FolderPlace) (f : ℕ) (D : Changed) → AreStood T new D → IfOk (settled T places f D) (AreStood T new)
  unfolding settled
  settled_stood places f D all = stood_then (counted T places f D) (mirrored T f) (counted_stood places f D all) (λ D' k. mirrored_stood f D' k)

-- the id is that of the new object
abbrev pub IsNew : Option Nid → ℕ → Type 0
IsNew new q = is_new new q ≡ true

fine_known : {A : Type 0} (o : Option A) (f : A → Bool) → IsSome o → Fine (known o >>= λ x. Ok (f x)) (λ b. Unit {0})
fine_known None f some = absurd (false≢true some)
fine_known (Some x) f some = tt

-- what stood there is compared
compared : {A : Type 0} (big new : Bool) (o : Option A) (f : A → Bool) → ((new ≡ true) ⊎ IsSome o) → Fine (if big && not new then (known o >>= λ x. Ok (f x)) else Ok big) (λ b. Unit {0})
compared true true o f stood = tt
compared true false o f (inl is) = absurd (false≢true is)
compared true false o f (inr some) = fine_known o f some
compared false new o f stood = tt

one_fine : (T : Tree) (new : Option Nid) (e : ℕ × Option Object) → Stood T (IsNew new) e → Fine (is_crowding T new e) (λ b. Unit {0})
one_fine T new (q, None) stood = tt
one_fine T new (q, Some (Context c)) stood = compared (is_crowded c.props) (is_new new q) (as_context (object_at T q)) (λ old. crowds old.props c.props) stood
one_fine T new (q, Some (Message m)) stood = compared (is_crowded_message m) (is_new new q) (as_message (object_at T q)) (λ old. crowds_message old m) stood
one_fine T new (q, Some (Table t)) stood = tt
one_fine T new (q, Some (Bare parent)) stood = tt

each_fine : (T : Tree) (new : Option Nid) (es : List (ℕ × Option Object)) → EachStood T (IsNew new) es → Fine (unless_crowding T new es) (λ u. Unit {0})
each_fine T new [] all = tt
each_fine T new (e ∷ es) all = fine_then (λ u. Unit {0}) (λ u. Unit {0}) (unless_past T new e) _
    (fine_then (λ b. Unit {0}) (λ u. Unit {0}) (is_crowding T new e) _ (one_fine T new e all.0) (λ b u. fine_test b (Limit Properties))) (λ u v. each_fine T new es all.1)

-- the changes keep to the limits, or the command is refused
pub after_limits : {B : Type 0} (Q : B → Type 0) (T : Tree) (new : Option Nid) (D : Changed) (f : Unit {0} → Answer B) → AreStood T (IsNew new) D → Fine (f tt) Q → Fine (within_limits T new D >>= f) Q
unfolding within_limits
after_limits Q T new D f stood next = elim (cases_Bool (not (list_all entry_fits (map.entries D.objects)))) [
  | inl t ↦ rw t tt
  | inr t ↦ rw t (fine_then (λ u. Unit {0}) Q (unless_crowding T new (map.entries D.objects)) f (each_fine T new (map.entries D.objects) stood) (λ u v. next))
]

-- two facts of one answer
pub fine_stood : {A : Type 0} (P Q : A → Type 0) (a : Answer A) → Fine a P → IfOk a Q → Fine a (λ x. P x × Q x)
fine_stood P Q (Ok x) p q = (p, q)
fine_stood P Q (Err None) p q = p
fine_stood P Q (Err (Some refusal)) p q = tt
