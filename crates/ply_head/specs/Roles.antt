-- A role that is put on a property.
use Rattle.std.specs.Prelude.{ℕ, ◌+◌, List, ◌++◌, map, take, drop}
use Rattle.ply_head.specs.declared.element.Role.{Role}
use Rattle.ply_head.specs.declared.element.Property.{Property}

-- the property at this place, if there is one, has this role
abbrev pub put_role : ℕ → Role → List Property → List Property
put_role at role ps = take at ps ++ map (λ (p : Property). record p { role = role }) (take 1 (drop at ps)) ++ drop (at + 1) ps
