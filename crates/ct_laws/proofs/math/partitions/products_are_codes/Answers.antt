use Rattle.ct_partitions.proofs.ProductCodes.{IsCode-product, length-product}
use Rattle.ct_laws.proofs.math.partitions.products_are_codes.Goals as goal

pub returns : goal.returns
returns c = record {
  code = λ n d w pairs factors sound some near. IsCode-product n d w pairs factors
      (λ i z within. record { first = (sound i z within).0.partition; second = (sound i z within).1.partition }) some near;
  size = length-product;
}
