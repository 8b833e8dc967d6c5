-- What each kind of object that is put leaves of a whole tree.
use Rattle.std.proofs.Common.{◌≡◌, ℕ, ◌≤◌, ◌<◌, ◌%◌, ◌/◌, ◌==◌, true, List, Option, None, Some, IsSome, is_some, arith, refl, sym, subst, ap, ◌∙◌, ◌⊎◌, inl, inr}
use Rattle.std.proofs.lemmas.Bool.{eq-eqb, or_left, or_right}
use Rattle.std.proofs.lemmas.Option.{same_Some}
use Rattle.mapi_values.specs.Keyed.{keys_ascend}
use Rattle.mapi_values.specs.Tables.{find_row}
use Rattle.mail_objects.specs.Forms.{Ctx, Tbl}
use Rattle.mail_objects.specs.declared.object.Object.{Object}
use Rattle.mail_objects.specs.declared.object.Object.TheVariants.{Context, Table}
use Rattle.mail_tree.specs.declared.places.FolderPlace.{FolderPlace}
use Rattle.mail_tree.specs.Places.{ROOT, find_place, is_plain}
use Rattle.mail_tree.specs.Changing.{beside, contents, hierarchy}
use Rattle.mail_tree.specs.Names.{AreNames, NAMES}
use Rattle.mail_tree.specs.Whole.{HasRow, fits_id}
use Rattle.mail_tree.proofs.Nearly.{AreNearly, Puts, folder_kind, plain_id, puts_suiting}

-- an object that fits
some_fits : (q : ℕ) (y : Object) → fits_id q y ≡ true → (x : Object) → Some y ≡ Some x → fits_id q x ≡ true
some_fits q y fits x e = subst (λ z. fits_id q z ≡ true) (same_Some y x e) fits

pub folder_fits : (f : ℕ) (c : Ctx) → (f % 32 ≡ 2) ⊎ (f % 32 ≡ 3) → fits_id f (Context c) ≡ true
folder_fits f c (inl e) = or_right (f == 0x21) _ (or_right (f == 0x61) _ (or_left (f % 32 == 2) _ (eq-eqb (f % 32) 2 e)))
folder_fits f c (inr e) = or_right (f == 0x21) _ (or_right (f == 0x61) _ (or_right (f % 32 == 2) _ (or_left (f % 32 == 3) (f % 32 == 7) (eq-eqb (f % 32) 3 e))))

pub same_table : (t u : Tbl) → ◌≡◌ {A = Option Object} (Some (Table t)) (Some (Table u)) → t ≡ u
same_table t u e = cc

-- a folder's id is none of a table or of a message
pub low : (f : ℕ) → (f % 32 ≡ 2) ⊎ (f % 32 ≡ 3) → (1 < f % 32) × (f % 32 < 4)
low f (inl e) = (omega arith, omega arith)
low f (inr e) = (omega arith, omega arith)

pub beside_kind : (f kind : ℕ) → kind < 32 → beside f kind % 32 ≡ kind
beside_kind f kind less = omega arith

-- folders beside which one table stands are one
pub same_folder : (f g kind : ℕ) → f % 32 ≡ 2 → g % 32 ≡ 2 → beside f kind ≡ beside g kind → f ≡ g
same_folder f g kind a b e = omega arith

module _ (E : ℕ → Type 0) (places : List FolderPlace) (at at' : ℕ → Option Object) (n : AreNearly E places at) where
  -- a folder gets other values, with its parent
  pub puts_context : (f : ℕ) (p : FolderPlace) (c : Ctx) → find_place f places ≡ Some p → ((f ≡ ROOT → ⊥) → (E f → ⊥) → c.parent ≡ p.parent.bits) → Puts at at' f (Some (Context c)) → AreNearly E places at'
  puts_context f p c e parent puts =
      let kind = folder_kind p.sort f (n.kinds f p e) in
      let (above, below) = low f kind in
      puts_suiting E places at at' f (Some (Context c)) n puts (record {
        typed = some_fits f (Context c) (folder_fits f c kind);
        rows_ascend = λ t e. cc;
        store = λ e. refl;
        names = λ e. absurd (omega arith);
        context = λ r e'. (c, refl, λ no_root free. parent no_root free ∙ ap (λ x. x.parent.bits) (same_Some p r (sym e ∙ e')));
        folders = λ g r e' plain same. absurd (omega (arith, beside_kind g 13 (omega arith)));
        messages = λ g r e' plain same. absurd (omega (arith, beside_kind g 14 (omega arith)));
        message = λ free four. omega arith;
      })

  -- a plain folder's table of folders gets other rows, which list all that matter still
  pub puts_folders : (f : ℕ) (p : FolderPlace) (t : Tbl) → find_place f places ≡ Some p → is_plain p ≡ true → keys_ascend (λ r. r.0) 0 t.table.rows ≡ true
      → ((g : ℕ) (r : FolderPlace) → find_place g places ≡ Some r → (E g → ⊥) → r.parent.bits ≡ f → HasRow (at (hierarchy f)) g → IsSome (find_row g t.table.rows))
      → Puts at at' (hierarchy f) (Some (Table t)) → AreNearly E places at'
  puts_folders f p t e plain ascend keeps puts =
      let kind : hierarchy f % 32 ≡ 13 = beside_kind f 13 (omega arith) in
      puts_suiting E places at at' (hierarchy f) (Some (Table t)) n puts (record {
        typed = some_fits (hierarchy f) (Table t) (or_left (hierarchy f % 32 == 13) _ (eq-eqb (hierarchy f % 32) 13 kind));
        rows_ascend = λ t' e'. subst (λ x. keys_ascend (λ r. r.0) 0 x.table.rows ≡ true) (same_table t t' e') ascend;
        store = λ e. refl;
        names = λ e. absurd (omega arith);
        context = λ r e'. absurd (let (above, below) = low (hierarchy f) (folder_kind r.sort (hierarchy f) (n.kinds (hierarchy f) r e')) in omega arith);
        folders = λ g r e' plain' same.
            let one : f ≡ g = same_folder f g 13 (plain_id n f p e plain) (plain_id n g r e' plain') same in
            (refl, λ h s eh other free parent. (t, refl, keeps h s eh free (parent ∙ sym one) (subst (λ x. HasRow (at (hierarchy x)) h) (parent ∙ sym one) (n.parents h s eh other free).3)));
        messages = λ g r e' plain same. absurd (omega (arith, beside_kind g 14 (omega arith)));
        message = λ free four. omega arith;
      })

  -- a plain folder's table of messages gets other rows, which list all that matter still, and of those that matter only what they listed
  pub puts_messages : (f : ℕ) (p : FolderPlace) (t t' : Tbl) → find_place f places ≡ Some p → is_plain p ≡ true → keys_ascend (λ r. r.0) 0 t'.table.rows ≡ true
      → at (contents f) ≡ Some (Table t) → ((m : ℕ) → (E m → ⊥) → is_some (find_row m t'.table.rows) ≡ is_some (find_row m t.table.rows))
      → Puts at at' (contents f) (Some (Table t')) → AreNearly E places at'
  puts_messages f p t t' e plain ascend was same_rows puts =
      let kind : contents f % 32 ≡ 14 = beside_kind f 14 (omega arith) in
      puts_suiting E places at at' (contents f) (Some (Table t')) n puts (record {
        typed = some_fits (contents f) (Table t') (or_right (contents f % 32 == 13) _ (or_left (contents f % 32 == 14) _ (eq-eqb (contents f % 32) 14 kind)));
        rows_ascend = λ u e'. subst (λ x. keys_ascend (λ r. r.0) 0 x.table.rows ≡ true) (same_table t' u e') ascend;
        store = λ e. refl;
        names = λ e. absurd (omega arith);
        context = λ r e'. absurd (let (above, below) = low (contents f) (folder_kind r.sort (contents f) (n.kinds (contents f) r e')) in omega arith);
        folders = λ g r e' plain same. absurd (omega (arith, beside_kind g 13 (omega arith)));
        messages = λ g r e' plain' same.
            let one : f ≡ g = same_folder f g 14 (plain_id n f p e plain) (plain_id n g r e' plain') same in (
              refl,
              λ u m eu row four free.
                  let row' : IsSome (find_row m t'.table.rows) = subst (λ x. IsSome (find_row m x.table.rows)) (sym (same_table t' u eu)) row in
                  let w = n.listed f p t m e plain was (sym (same_rows m free) ∙ row') four free in
                  (w.0, w.1, w.2 ∙ one),
              λ m M is free folder.
                  let w = n.held m M is free in
                  let row = subst (λ x. HasRow (at (contents x)) m) (folder ∙ sym one) w.3 in
                  let row' : IsSome (find_row m t.table.rows) = subst (λ x. IsSome (find_row m x.table.rows)) (same_table row.0 t (sym row.1 ∙ was)) row.2 in
                  (t', refl, same_rows m free ∙ row'),
            );
        message = λ free four. omega arith;
      })

  -- at the id of a message that doesn't matter anything may stand that fits
  pub puts_message : (m : ℕ) (o : Option Object) → m % 32 ≡ 4 → E m → ((x : Object) → o ≡ Some x → fits_id m x ≡ true) → ((t : Tbl) → o ≡ Some (Table t) → ⊥) → Puts at at' m o → AreNearly E places at'
  puts_message m o four free fits no_table puts = puts_suiting E places at at' m o n puts (record {
    typed = fits;
    rows_ascend = λ t e. absurd (no_table t e);
    store = λ e. absurd (omega arith);
    names = λ e. absurd (omega arith);
    context = λ r e'. absurd (let (above, below) = low m (folder_kind r.sort m (n.kinds m r e')) in omega arith);
    folders = λ g r e' plain same. absurd (omega (arith, beside_kind g 13 (omega arith)));
    messages = λ g r e' plain same. absurd (omega (arith, beside_kind g 14 (omega arith)));
    message = λ matters e. matters free;
  })

  -- at the ids of a folder that isn't there anything may stand that fits
  pub puts_free : (f q : ℕ) (o : Option Object) → find_place f places ≡ None → f % 32 ≡ 2 → q / 32 ≡ f / 32 → (q % 32 ≡ 2) ⊎ (13 ≤ q % 32)
      → ((x : Object) → o ≡ Some x → fits_id q x ≡ true) → ((t : Tbl) → o ≡ Some (Table t) → keys_ascend (λ r. r.0) 0 t.table.rows ≡ true) → Puts at at' q o → AreNearly E places at'
  puts_free f q o none kind index kinds fits ascend puts =
      let apart : (g : ℕ) (r : FolderPlace) → find_place g places ≡ Some r → g ≡ f → ⊥ = λ g r e same. cc (subst (λ x. find_place x places ≡ Some r) same e) in
      puts_suiting E places at at' q o n puts (record {
        typed = fits;
        rows_ascend = ascend;
        store = λ e. absurd (elim kinds [ inl k ↦ omega arith | inr k ↦ omega arith ]);
        names = λ e. absurd (elim kinds [ inl k ↦ omega arith | inr k ↦ omega arith ]);
        context = λ r e'. absurd (let (above, below) = low q (folder_kind r.sort q (n.kinds q r e')) in apart q r e' (elim kinds [ inl k ↦ omega arith | inr k ↦ omega arith ]));
        folders = λ g r e' plain same. absurd (apart g r e' (omega (arith, plain_id n g r e' plain)));
        messages = λ g r e' plain same. absurd (apart g r e' (omega (arith, plain_id n g r e' plain)));
        message = λ free four. elim kinds [ inl k ↦ omega arith | inr k ↦ omega arith ];
      })

  -- the names are put again, with others
  pub puts_names : (c : Ctx) → AreNames c.props → Puts at at' NAMES (Some (Context c)) → AreNearly E places at'
  puts_names c names puts = puts_suiting E places at at' NAMES (Some (Context c)) n puts (record {
    typed = some_fits NAMES (Context c) refl;
    rows_ascend = λ t e. cc;
    store = λ e. refl;
    names = λ e. (c, refl, names);
    context = λ r e'. absurd (let (above, below) = low NAMES (folder_kind r.sort NAMES (n.kinds NAMES r e')) in omega arith);
    folders = λ g r e' plain same. absurd (omega (arith, beside_kind g 13 (omega arith)));
    messages = λ g r e' plain same. absurd (omega (arith, beside_kind g 14 (omega arith)));
    message = λ free four. omega arith;
  })
