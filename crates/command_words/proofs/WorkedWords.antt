-- Worked lists of words, with the jobs that they ask for.
use Rattle.std.specs.Prelude.{◌≡◌, [], ◌∷◌, Some, None, codes}
use Rattle.std.proofs.Common.{refl}
use Rattle.command_words.specs.declared.jobs.Job.TheVariants.{Finest, Build, Gen}
use Rattle.command_words.specs.Words.{asked, given_in}

-- ---- taken

command_alone : asked (codes "finest" ∷ []) ≡ Some (Finest None None)
unfolding asked given_in
command_alone = refl

two_words : asked (codes "finest" ∷ codes "--cap" ∷ codes "1024" ∷ []) ≡ Some (Finest None (Some 1024))
unfolding asked given_in
two_words = refl

one_word : asked (codes "finest" ∷ codes "--digits=9" ∷ []) ≡ Some (Finest (Some 9) None)
unfolding asked given_in
one_word = refl

both_in_any_order : asked (codes "finest" ∷ codes "--cap=16777216" ∷ codes "--digits" ∷ codes "0" ∷ []) ≡ Some (Finest (Some 0) (Some 16777216))
unfolding asked given_in
both_in_any_order = refl

leading_zeros : asked (codes "finest" ∷ codes "--cap" ∷ codes "0000000001" ∷ []) ≡ Some (Finest None (Some 1))
unfolding asked given_in
leading_zeros = refl

no_option_of_a_build : asked (codes "build" ∷ []) ≡ Some (Build None 1024 32768)
unfolding asked given_in
no_option_of_a_build = refl

options_of_a_build : asked (codes "build" ∷ codes "--budget=4194304" ∷ codes "--cap" ∷ codes "1" ∷ codes "--digits=0" ∷ []) ≡ Some (Build (Some 0) 1 4194304)
unfolding asked given_in
options_of_a_build = refl

needed_option : asked (codes "gen" ∷ codes "--size=1" ∷ []) ≡ Some (Gen 1)
unfolding asked given_in
needed_option = refl

greatest_size : asked (codes "gen" ∷ codes "--size" ∷ codes "500" ∷ []) ≡ Some (Gen 500)
unfolding asked given_in
greatest_size = refl

-- ---- outside the grammar

without_its_option : asked (codes "gen" ∷ []) ≡ None
unfolding asked given_in
without_its_option = refl

size_of_zero : asked (codes "gen" ∷ codes "--size=0" ∷ []) ≡ None
unfolding asked given_in
size_of_zero = refl

size_past_the_greatest : asked (codes "gen" ∷ codes "--size=501" ∷ []) ≡ None
unfolding asked given_in
size_past_the_greatest = refl

option_of_another_command : asked (codes "gen" ∷ codes "--size=1" ∷ codes "--cap=1" ∷ []) ≡ None
unfolding asked given_in
option_of_another_command = refl

no_words : asked [] ≡ None
unfolding asked given_in
no_words = refl

unknown_command : asked (codes "finset" ∷ []) ≡ None
unfolding asked given_in
unknown_command = refl

longer_command : asked (codes "finest1" ∷ []) ≡ None
unfolding asked given_in
longer_command = refl

option_first : asked (codes "--cap=1" ∷ codes "finest" ∷ []) ≡ None
unfolding asked given_in
option_first = refl

budget_of_zero : asked (codes "build" ∷ codes "--budget=0" ∷ []) ≡ None
unfolding asked given_in
budget_of_zero = refl

cap_of_zero : asked (codes "finest" ∷ codes "--cap" ∷ codes "0" ∷ []) ≡ None
unfolding asked given_in
cap_of_zero = refl

cap_past_the_greatest : asked (codes "finest" ∷ codes "--cap=16777217" ∷ []) ≡ None
unfolding asked given_in
cap_past_the_greatest = refl

digits_past_the_greatest : asked (codes "finest" ∷ codes "--digits=10" ∷ []) ≡ None
unfolding asked given_in
digits_past_the_greatest = refl

eleven_digits : asked (codes "finest" ∷ codes "--cap=00000000001" ∷ []) ≡ None
unfolding asked given_in
eleven_digits = refl

no_value : asked (codes "finest" ∷ codes "--cap" ∷ []) ≡ None
unfolding asked given_in
no_value = refl

empty_value : asked (codes "finest" ∷ codes "--cap=" ∷ []) ≡ None
unfolding asked given_in
empty_value = refl

no_number : asked (codes "finest" ∷ codes "--cap=+1" ∷ []) ≡ None
unfolding asked given_in
no_number = refl

value_behind_two_signs : asked (codes "finest" ∷ codes "--cap==1" ∷ []) ≡ None
unfolding asked given_in
value_behind_two_signs = refl

option_as_a_value : asked (codes "finest" ∷ codes "--cap" ∷ codes "--digits=1" ∷ []) ≡ None
unfolding asked given_in
option_as_a_value = refl

twice : asked (codes "finest" ∷ codes "--cap=1" ∷ codes "--digits=1" ∷ codes "--cap" ∷ codes "1" ∷ []) ≡ None
unfolding asked given_in
twice = refl

unknown_option : asked (codes "finest" ∷ codes "--budget=1" ∷ []) ≡ None
unfolding asked given_in
unknown_option = refl

shortened_name : asked (codes "finest" ∷ codes "--dig=1" ∷ []) ≡ None
unfolding asked given_in
shortened_name = refl

one_dash : asked (codes "finest" ∷ codes "-cap" ∷ codes "1" ∷ []) ≡ None
unfolding asked given_in
one_dash = refl

two_dashes_alone : asked (codes "finest" ∷ codes "--cap=1" ∷ codes "--" ∷ []) ≡ None
unfolding asked given_in
two_dashes_alone = refl

stray_word : asked (codes "finest" ∷ codes "1" ∷ codes "--cap=1" ∷ []) ≡ None
unfolding asked given_in
stray_word = refl

help : asked (codes "finest" ∷ codes "--help" ∷ []) ≡ None
unfolding asked given_in
help = refl
