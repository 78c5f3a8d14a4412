-- The contents of a file from each of its lists on: the chain of `contents`, cut. Assumes nothing.
use mathlib.Core.List.{List}
use mathlib.Core.Path.{◌≡◌, refl}
use Rattle.rules.specs.Bytes.{Aid, Reader, ◌>>=◌, ret, u1, u2, aid, counted}
use Rattle.rules.specs.Package.{Format, most_domains, most_imports, most_references, most_classes, Reference, Class, Package, reference, class, contents}

abbrev pub package_of : Aid → List Aid → List Aid → List Reference → List Class → Package
package_of a ds is rs cs = record { aid = a; domains = ds; imports = is; references = rs; classes = cs }

-- from the classes on
unfoldable pub classes_of : Format → Aid → List Aid → List Aid → List Reference → Reader Package
classes_of t a ds is rs = counted most_classes u1 (class t ds) >>= λ cs. ret (package_of a ds is rs cs)

-- from the references on
unfoldable pub references_of : Format → Aid → List Aid → List Aid → Reader Package
references_of t a ds is = counted most_references u2 reference >>= λ rs. classes_of t a ds is rs

-- from the imports on
unfoldable pub imports_of : Format → Aid → List Aid → Reader Package
imports_of t a ds = counted most_imports u1 aid >>= λ is. references_of t a ds is

-- from the domains on
unfoldable pub domains_of : Format → Aid → Reader Package
domains_of t a = counted most_domains u1 aid >>= λ ds. imports_of t a ds

pub contents_cut : (t : Format) → contents t ≡ (aid >>= λ a. domains_of t a)
unfolding contents domains_of imports_of references_of classes_of
contents_cut t = refl
