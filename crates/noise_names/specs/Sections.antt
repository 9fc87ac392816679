-- What is read of a pattern section and of a name, as functions, for the parts of the reading. No public contract cites
-- this file.
use Rattle.std.specs.Prelude.{ℕ, ◌-◌, nat_lt, not, List, length, map, take, bytes_eq, Result, Ok, Err, if◌then◌else◌}
use Rattle.std.specs.List.{list_all}
use Rattle.noise_names.specs.declared.faults.NameFault.{NameFault}
use Rattle.noise_names.specs.declared.faults.NameFault.TheVariants.{Length, Prefix, Base, Modifier, ModifierOrder, Algorithm}
use Rattle.noise_names.specs.Names.{Section, is_base, base_front, after_base, pieces_of, is_modifier, digit_of, rises, prefix, suffix, section_part}
use Rattle.noise_names.specs.Names.{algorithm_part}

-- the number of a modifier
abbrev pub number_in : List ℕ → ℕ
number_in piece = digit_of piece - 48

-- the numbers of the modifiers after a base
abbrev pub numbers_in : List ℕ → List ℕ
numbers_in modifiers = map number_in (pieces_of modifiers)

-- the result, unless the modifiers have a fault
abbrev pub unless_modifier_fault : {A : Type 0} → List ℕ → Result A NameFault → Result A NameFault
unless_modifier_fault modifiers result =
    if not (list_all is_modifier (pieces_of modifiers)) then Err Modifier
    else (if not (rises (map digit_of (pieces_of modifiers))) then Err ModifierOrder else result)

abbrev pub modifiers_read : List ℕ → Result (List ℕ) NameFault
modifiers_read modifiers = unless_modifier_fault modifiers (Ok (numbers_in modifiers))

-- the result, unless the section has a fault
abbrev pub unless_section_fault : {A : Type 0} → List ℕ → Result A NameFault → Result A NameFault
unless_section_fault section result =
    if not (is_base (base_front section)) then Err Base else unless_modifier_fault (after_base section) result

-- the parts of a section
abbrev pub section_in : List ℕ → Section
section_in section = record { base = base_front section; places = numbers_in (after_base section) }

abbrev pub section_read : List ℕ → Result Section NameFault
section_read section = unless_section_fault section (Ok (section_in section))

-- the first fault of a name, or its section
abbrev pub name_read : List ℕ → Result Section NameFault
name_read bytes =
    if nat_lt 255 (length bytes) then Err Length
    else (if not (bytes_eq (take 6 bytes) prefix) then Err Prefix
    else unless_section_fault (section_part bytes)
    (if not (bytes_eq (algorithm_part bytes) suffix) then Err Algorithm else Ok (section_in (section_part bytes))))
