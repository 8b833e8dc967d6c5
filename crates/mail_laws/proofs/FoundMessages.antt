-- A message is found exactly where the tree has it.
use Rattle.std.proofs.Common.{◌≡◌, ℕ, ◌%◌, ◌==◌, ◌⊎◌, inl, inr, None, Some, is_some, Ok, Err, refl, sym, ap, ◌∙◌}
use Rattle.std.proofs.lemmas.Bool.{cases_Bool, eqb-true}
use Rattle.std.proofs.lemmas.Option.{none-some}
use Rattle.mapi_values.specs.Messages.{Mes}
use Rattle.mapi_values.specs.Tables.{find_row}
use Rattle.command_text.specs.declared.reply.CommandRefusal.TheVariants.{Object as NoObject}
use Rattle.mail_objects.specs.declared.object.Object.TheVariants.{Message}
use Rattle.mail_tree.specs.Changing.{Answer, nothing, now_at}
use Rattle.mail_tree.specs.Messages.{message_in, parent_at}
use Rattle.mail_tree.specs.Places.{find_place, is_plain}
use Rattle.mail_tree.specs.Tree.{Tree, object_at}
use Rattle.mail_tree.specs.Whole.{IsWhole}
use Rattle.mail_tree.proofs.AfterTree.{now_nothing}
use Rattle.mail_tree.proofs.FineLaws.{cases_Option}
use Rattle.mail_tree.proofs.Settles.{messages_of}
use Rattle.mail_laws.specs.Laws.{message_with}
use Rattle.mail_laws.proofs.Effects.{message_found}
use Rattle.mail_laws.proofs.LawSteps.{before, is_message, was_message}
use Rattle.mail_laws.proofs.MessageSteps.{Before}

-- a message is found that the tree has, or there is none
answers : (T : Tree) (m : ℕ) → Before T → (message_in T m ≡ Err (Some NoObject)) ⊎ ((M : Mes) × (message_in T m ≡ Ok M) × (now_at T nothing m ≡ Some (Message M)))
unfolding message_in
answers T m w = elim (cases_Bool (m % 32 == 4)) [
  | inr t ↦ rw t (inl refl)
  | inl t ↦ rw t (elim (cases_Option (parent_at T m)) [
    | inl e ↦ rw e (inl refl)
    | inr f ↦ rw f.1 (elim (cases_Option (find_place f.0 T.places)) [
      | inl e ↦ rw e (inl refl)
      | inr p ↦ rw p.1 (elim (cases_Bool (is_plain p.0)) [
        | inr plain ↦ rw plain (inl refl)
        | inl plain ↦ let four = eqb-true (m % 32) 4 t in let table = messages_of w f.0 p.0 p.1 plain in
            rw (plain, table.1) (elim (cases_Bool (is_some (find_row m table.0.table.rows))) [
              | inr row ↦ rw row (inl refl)
              | inl row ↦ let M = w.listed f.0 p.0 table.0 m p.1 plain table.1 row four in rw (row, M.1) (inr (M.0, refl, refl))
            ])
      ])
    ])
  ])
]

-- the answer isn't both
one_answer : (a : Answer Mes) (M N : Mes) → a ≡ Ok M → a ≡ Ok N → N ≡ M
one_answer a M N e e' = cc

no_answer : (a : Answer Mes) (M : Mes) → a ≡ Err (Some NoObject) → a ≡ Ok M → ⊥
no_answer a M e e' = cc

pub only_there : (T : Tree) (m : ℕ) (M : Mes) → IsWhole T → message_in T m ≡ Ok M → message_with T m ≡ Some M
only_there T m M w e = elim (answers T m (before T w)) [
  | inl r ↦ absurd (no_answer (message_in T m) M r e)
  | inr a ↦ was_message T m a.0 a.2 ∙ ap (λ x. Some x) (one_answer (message_in T m) M a.0 e a.1)
]

pub found_there : (T : Tree) (m : ℕ) (M : Mes) → IsWhole T → message_with T m ≡ Some M → message_in T m ≡ Ok M
found_there T m M w is = message_found T m M (before T w) (ap (λ g. g m) (now_nothing T) ∙ is_message (object_at T m) M is)

pub refused_there : (T : Tree) (m : ℕ) → IsWhole T → message_with T m ≡ None → message_in T m ≡ Err (Some NoObject)
refused_there T m w none = elim (answers T m (before T w)) [
  | inl r ↦ r
  | inr a ↦ absurd (none-some a.0 (sym none ∙ was_message T m a.0 a.2))
]

pub none_there : (T : Tree) (m : ℕ) → IsWhole T → message_in T m ≡ Err (Some NoObject) → message_with T m ≡ None
none_there T m w e = elim (cases_Option (message_with T m)) [
  | inl none ↦ none
  | inr M ↦ absurd (no_answer (message_in T m) M.0 e (found_there T m M.0 w M.1))
]
