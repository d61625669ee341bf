-- Worked values: what is asked for where two pages are cached at most.
use Rattle.std.specs.Prelude.{◌≡◌, ℕ, [], ◌∷◌}
use Rattle.lc_model.specs.declared.page.PageName.{PageName}
use Rattle.page_client.specs.declared.want.Want.{Want}
use Rattle.page_client.specs.declared.want.Want.TheVariants as wants
use Rattle.convoy.specs.Agreement.Names.{asked_of, names_after}

-- the name of a page
abbrev pub at : ℕ → ℕ → PageName
at version departs = record { version = version; departs = departs }

-- this page is wanted
abbrev pub page : ℕ → ℕ → Want
page version departs = wants.Page (at version departs)

-- The page 1 is used again, thus 2 goes where 3 comes, and is asked for once more. The time gate and the stops document are asked for each time.
-- A page of another version is another one.
pub record WorkedNames : Type 0 where
  pub twice : asked_of 2 [] (page 0 1 ∷ page 0 2 ∷ page 0 1 ∷ page 0 3 ∷ page 0 2 ∷ []) ≡ page 0 1 ∷ page 0 2 ∷ page 0 3 ∷ page 0 2 ∷ []
  pub left : names_after 2 [] (page 0 1 ∷ page 0 2 ∷ page 0 1 ∷ page 0 3 ∷ page 0 2 ∷ []) ≡ at 0 2 ∷ at 0 3 ∷ []
  pub documents : asked_of 2 (at 0 1 ∷ []) (wants.Gate ∷ wants.Stops ∷ page 0 1 ∷ wants.Gate ∷ wants.Stops ∷ []) ≡ wants.Gate ∷ wants.Stops ∷ wants.Gate ∷ wants.Stops ∷ []
  pub other_version : asked_of 2 (at 0 1 ∷ []) (page 1 1 ∷ page 0 1 ∷ []) ≡ page 1 1 ∷ []
