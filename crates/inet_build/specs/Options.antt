-- Clean TCP options: those that change how numbers and windows are read give way to options of one
-- byte.
use Rattle.std.specs.Prelude.{ℕ, Bool, ◌||◌, ◌==◌, if◌then◌else◌, List, ◌++◌, length, drop, replicate, slice_index}
use Rattle.std.specs.List.{concat, flat_map, list_any}
use Rattle.inet_frame.specs.Options.{options_of}

-- window scale, kind 3, and timestamps, kind 8 (RFC 7323, 2.2 and 3.2); selective acknowledgements
-- permitted, kind 4 (RFC 2018, 2)
abbrev pub is_unwanted : List ℕ → Bool
is_unwanted option =
    slice_index option 0 == 3 || slice_index option 0 == 4 || slice_index option 0 == 8

-- "no operation", kind 1, in the place of each byte (RFC 9293, 3.2)
abbrev pub clean_option : List ℕ → List ℕ
clean_option option = if is_unwanted option then replicate (length option) 1 else option

abbrev pub has_unwanted : List ℕ → Bool
has_unwanted options = list_any is_unwanted (options_of options)

-- what stands after the last option that is met
abbrev pub after_options : List ℕ → List ℕ
after_options options = drop (length (concat (options_of options))) options

-- each option that is met is clean, and what stands after them stays
unfoldable pub clean_options : List ℕ → List ℕ
clean_options options = flat_map clean_option (options_of options) ++ after_options options
