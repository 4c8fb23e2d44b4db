-- Steps that are clear, and steps that refuse, in a row.
use Rattle.std.proofs.Common.{◌≡◌, ◌⊎◌, inl, inr}
use Rattle.wl_linking.specs.Steps.{Clear, Refuses, Step, here, behind, NoStep}
use Rattle.wl_linking.specs.declared.error.LinkError.{LinkError}
use Rattle.wl_linking.specs.declared.error.LinkError.TheVariants.{OutOfMemory}

-- ---- each step by itself

pub refuses_for : (cause : LinkError → Type 0) (e : LinkError) → cause e → Refuses cause e
refuses_for cause e h = record { cause_is = λ other. h }

pub refuses_memory : (cause : LinkError → Type 0) (e : LinkError) → e ≡ OutOfMemory
    → Refuses cause e
refuses_memory cause e is = record { cause_is = λ other. absurd (other is) }

pub refuses_more : (cause wider : LinkError → Type 0) (e : LinkError) → (cause e → wider e)
    → Refuses cause e → Refuses wider e
refuses_more cause wider e more h = record { cause_is = λ other. more (h.cause_is other) }

-- ---- in a row

pub clear_end : Clear NoStep
clear_end = record { none = λ e h. h }

none_of : (cause rest : LinkError → Type 0) → Clear cause → Clear rest → (e : LinkError)
    → Step cause rest e → ⊥
none_of cause rest first others e (here h) = first.none e h
none_of cause rest first others e (behind clear h) = others.none e h

-- both are clear
pub clear_step : (cause rest : LinkError → Type 0) → Clear cause → Clear rest
    → Clear (Step cause rest)
clear_step cause rest first others = record { none = none_of cause rest first others }

pub first_clear : (cause rest : LinkError → Type 0) → Clear (Step cause rest) → Clear cause
first_clear cause rest clear = record { none = λ e h. clear.none e (here h) }

pub rest_clear : (cause rest : LinkError → Type 0) → Clear (Step cause rest) → Clear rest
rest_clear cause rest clear = record {
  none = λ e h. clear.none e (behind (first_clear cause rest clear) h);
}

pub refuses_here : (cause rest : LinkError → Type 0) (e : LinkError) → Refuses cause e
    → Refuses (Step cause rest) e
refuses_here cause rest e h = record { cause_is = λ other. here (h.cause_is other) }

pub refuses_behind : (cause rest : LinkError → Type 0) (e : LinkError) → Clear cause
    → Refuses rest e
    → Refuses (Step cause rest) e
refuses_behind cause rest e clear h = record { cause_is = λ other. behind clear (h.cause_is other) }

-- ---- some steps before others

-- a row of steps, by what is judged after them
pub record IsRow (row : (LinkError → Type 0) → LinkError → Type 0) : Type 1 where
  pub one : (rest : LinkError → Type 0) (e : LinkError) → row NoStep e → row rest e
  pub past : (rest : LinkError → Type 0) (e : LinkError) → Clear (row NoStep) → rest e → row rest e
  pub neither : (rest : LinkError → Type 0) → Clear (row NoStep) → Clear rest → (e : LinkError)
      → row rest e → ⊥
  pub first : (rest : LinkError → Type 0) → Clear (row rest) → (e : LinkError) → row NoStep e → ⊥

abbrev no_row : (LinkError → Type 0) → LinkError → Type 0
no_row rest = rest

pub row_end : IsRow no_row
row_end = record {
  one = λ rest e h. absurd h;
  past = λ rest e clear h. h;
  neither = λ rest clear others e h. others.none e h;
  first = λ rest clear e h. h;
}

-- one more step first
abbrev more : (LinkError → Type 0) → ((LinkError → Type 0) → LinkError → Type 0)
    → (LinkError → Type 0) → LinkError → Type 0
more cause row rest = Step cause (row rest)

one_of : (cause : LinkError → Type 0) (row : (LinkError → Type 0) → LinkError → Type 0) → IsRow row
    → (rest : LinkError → Type 0) (e : LinkError) → more cause row NoStep e → more cause row rest e
one_of cause row is rest e (here h) = here h
one_of cause row is rest e (behind clear h) = behind clear (is.one rest e h)

neither_of : (cause : LinkError → Type 0) (row : (LinkError → Type 0) → LinkError → Type 0)
    → IsRow row → (rest : LinkError → Type 0) → Clear (more cause row NoStep) → Clear rest
    → (e : LinkError) → more cause row rest e → ⊥
neither_of cause row is rest clear others e (here h) = (first_clear cause (row NoStep) clear).none e h
neither_of cause row is rest clear others e (behind x h) =
    is.neither rest (rest_clear cause (row NoStep) clear) others e h

first_of_row : (cause : LinkError → Type 0) (row : (LinkError → Type 0) → LinkError → Type 0)
    → IsRow row → (rest : LinkError → Type 0) → Clear (more cause row rest)
    → (e : LinkError) → more cause row NoStep e → ⊥
first_of_row cause row is rest clear e (here h) = (first_clear cause (row rest) clear).none e h
first_of_row cause row is rest clear e (behind x h) =
    is.first rest (rest_clear cause (row rest) clear) e h

pub row_more : (cause : LinkError → Type 0) (row : (LinkError → Type 0) → LinkError → Type 0)
    → IsRow row → IsRow (more cause row)
row_more cause row is = record {
  one = one_of cause row is;
  past = λ rest e clear h. behind (first_clear cause (row NoStep) clear)
      (is.past rest e (rest_clear cause (row NoStep) clear) h);
  neither = neither_of cause row is;
  first = first_of_row cause row is;
}

-- ---- what a row of steps refuses, and where it is clear

pub row_refuses : (row : (LinkError → Type 0) → LinkError → Type 0) → IsRow row
    → (rest : LinkError → Type 0) (e : LinkError) → Refuses (row NoStep) e → Refuses (row rest) e
row_refuses row is rest e h = record { cause_is = λ other. is.one rest e (h.cause_is other) }

pub row_behind : (row : (LinkError → Type 0) → LinkError → Type 0) → IsRow row
    → (rest : LinkError → Type 0) (e : LinkError) → Clear (row NoStep) → Refuses rest e
    → Refuses (row rest) e
row_behind row is rest e clear h = record {
  cause_is = λ other. is.past rest e clear (h.cause_is other);
}

pub row_clear : (row : (LinkError → Type 0) → LinkError → Type 0) → IsRow row
    → (rest : LinkError → Type 0) → Clear (row NoStep) → Clear rest → Clear (row rest)
row_clear row is rest clear others = record { none = is.neither rest clear others }

-- ---- one of two causes

pub clear_both : (a b : LinkError → Type 0) → Clear a → Clear b → Clear (λ e. a e ⊎ b e)
clear_both a b first second = record {
  none = λ e h. elim h [ inl x ↦ first.none e x | inr y ↦ second.none e y ];
}
