-- What a pass was replied, one command after another, and in longer histories.
use Rattle.std.proofs.Common.{◌≡◌, ℕ, List, [], ◌∷◌, ◌++◌, Option, Result, refl, ap, sym, ◌∙◌, subst, append_assoc, inl, inr, ◌⊎◌}
use mathlib.Core.List.{IsPrefix}
use Rattle.command_file.specs.declared.command.Command.{Command}
use Rattle.command_file.specs.declared.command.Command.TheVariants.{Map, Table}
use Rattle.command_file.specs.declared.command.MapCommand.{MapCommand}
use Rattle.run_lines.specs.declared.refusal.LineRefusal.{LineRefusal}
use Rattle.run_lines.specs.Calls.{Asked, Call, calls_by, operation_of}
use Rattle.run_lines.specs.Replies.{Place, AnsweredAt, RefusedAt, RepliedFrom, IsTableLine, held_by, text_of}

place_later : (h h' : List Call) (p : ℕ) (done : List Asked) → IsPrefix h h' → Place h p done → Place h' p done
place_later h h' p done pre at = record {
  before = at.before;
  later = at.later ++ pre.0;
  stands = sym pre.1 ∙ (ap (λ (x : List Call). x ++ pre.0) at.stands ∙ append_assoc at.before at.later pre.0);
  past = at.past;
}

module _ (MayReply : List Call → MapCommand → Result (Option (List ℕ)) LineRefusal → Type 0) where
  answered_later : (h h' : List Call) (p : ℕ) (done : List Asked) (c : MapCommand) (answer : Option (List ℕ)) → IsPrefix h h' → AnsweredAt MayReply h p done c answer → AnsweredAt MayReply h' p done c answer
  answered_later h h' p done c answer pre at = record {
    before = at.before;
    later = at.later ++ pre.0;
    stands = sym pre.1 ∙ (ap (λ (x : List Call). x ++ pre.0) at.stands ∙ append_assoc at.before ((p, operation_of c) ∷ at.later) pre.0);
    past = at.past;
    told = at.told;
    may = at.may;
  }

  refused_later : (h h' : List Call) (p : ℕ) (done : List Asked) (c : MapCommand) (line : List ℕ) → IsPrefix h h' → RefusedAt MayReply h p done c line → RefusedAt MayReply h' p done c line
  unfolding place_later
  refused_later h h' p done c line pre r = record { why = r.why; line_is = r.line_is; place = place_later h h' p done pre r.place; may = r.may }

  -- what was replied stays so in each longer history with the same calls of the pass
  pub replied_later : (h h' : List Call) (p : ℕ) (done : List Asked) (held : Option (List ℕ)) (cs : List Command) (lines : List (List ℕ)) (last : Option (List ℕ))
      → IsPrefix h h' → calls_by p h' ≡ calls_by p h → RepliedFrom MayReply h p done held cs lines last → RepliedFrom MayReply h' p done held cs lines last
  replied_later h h' p done held [] [] last pre same r = (same ∙ r.0, r.1)
  replied_later h h' p done held [] (line ∷ lines) last pre same r = absurd r
  replied_later h h' p done held (c ∷ cs) [] last pre same r = absurd r
  replied_later h h' p done held (Table c ∷ cs) (line ∷ lines) last pre same r = (r.0, r.1, replied_later h h' p done r.0 cs lines last pre same r.2)
  replied_later h h' p done held (Map c ∷ cs) (line ∷ lines) last pre same (inl a) =
      inl (a.0, a.1, answered_later h h' p done c a.0 pre a.2, replied_later h h' p (done ++ operation_of c ∷ []) (held_by c a.0 held) cs lines last pre same a.3)
  replied_later h h' p done held (Map c ∷ cs) (line ∷ lines) last pre same (inr r) =
      inr (refused_later h h' p done c line pre r.0, replied_later h h' p done held cs lines last pre same r.1)

  -- one more command, by which one history became the other, and one held value the other
  abbrev pub Step : List Call → List Call → ℕ → Option (List ℕ) → Command → List ℕ → Option (List ℕ) → Type 0
  Step h h' p held (Table c) line last = IsTableLine c held line last × (calls_by p h' ≡ calls_by p h)
  Step h h' p held (Map c) line last =
      ((answer : Option (List ℕ)) × (line ≡ text_of answer) × AnsweredAt MayReply h' p (calls_by p h) c answer × (calls_by p h' ≡ calls_by p h ++ operation_of c ∷ []) × (last ≡ held_by c answer held))
      ⊎ (RefusedAt MayReply h' p (calls_by p h) c line × (calls_by p h' ≡ calls_by p h) × (last ≡ held))

  first : (h h' : List Call) (p : ℕ) (done : List Asked) (held : Option (List ℕ)) (c : Command) (line : List ℕ) (last : Option (List ℕ)) → calls_by p h ≡ done → Step h h' p held c line last → RepliedFrom MayReply h' p done held (c ∷ []) (line ∷ []) last
  first h h' p done held (Table c) line last is s = (last, s.0, (s.1 ∙ is, refl))
  first h h' p done held (Map c) line last is (inl a) =
      inl (a.0, a.1, subst (λ (d : List Asked). AnsweredAt MayReply h' p d c a.0) is a.2, (a.3 ∙ ap (λ (d : List Asked). d ++ operation_of c ∷ []) is, a.4))
  first h h' p done held (Map c) line last is (inr r) = inr (subst (λ (d : List Asked). RefusedAt MayReply h' p d c line) is r.0, (r.1 ∙ is, r.2))

  pub replied_more : (h h' : List Call) (p : ℕ) (done : List Asked) (held : Option (List ℕ)) (cs : List Command) (lines : List (List ℕ)) (now : Option (List ℕ)) (c : Command) (line : List ℕ) (last : Option (List ℕ))
      → IsPrefix h h' → RepliedFrom MayReply h p done held cs lines now → Step h h' p now c line last → RepliedFrom MayReply h' p done held (cs ++ c ∷ []) (lines ++ line ∷ []) last
  replied_more h h' p done held [] [] now c line last pre r s = subst (λ (x : Option (List ℕ)). RepliedFrom MayReply h' p done x (c ∷ []) (line ∷ []) last) r.1 (first h h' p done now c line last r.0 s)
  replied_more h h' p done held [] (l ∷ lines) now c line last pre r s = absurd r
  replied_more h h' p done held (x ∷ cs) [] now c line last pre r s = absurd r
  replied_more h h' p done held (Table x ∷ cs) (l ∷ lines) now c line last pre r s = (r.0, r.1, replied_more h h' p done r.0 cs lines now c line last pre r.2 s)
  replied_more h h' p done held (Map x ∷ cs) (l ∷ lines) now c line last pre (inl a) s =
      inl (a.0, a.1, answered_later h h' p done x a.0 pre a.2, replied_more h h' p (done ++ operation_of x ∷ []) (held_by x a.0 held) cs lines now c line last pre a.3 s)
  replied_more h h' p done held (Map x ∷ cs) (l ∷ lines) now c line last pre (inr r) s =
      inr (refused_later h h' p done x l pre r.0, replied_more h h' p done held cs lines now c line last pre r.1 s)
