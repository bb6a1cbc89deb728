-- Text put into a page.
use Rattle.std.specs.Prelude.{◌≡◌, ℕ, List}
use Rattle.page.specs.Writing.{Put}
use Rattle.page.specs.declared.Page.{Page}

-- the text s was put at the end of p, which became q, in the same lent bytes
pub record Puts (p q : Page) (s : List ℕ) : Type 0 where
  pub put : Put p.out.now p.at q.out.now q.at s
  pub same : q.out.ghost_name ≡ p.out.ghost_name
